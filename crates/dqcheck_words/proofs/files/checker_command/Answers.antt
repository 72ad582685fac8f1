use Rattle.std.proofs.Common.{◌≡◌, ◌∙◌, ap, ap₂, codes, true}
use Rattle.std.proofs.lemmas.Result.{IfOk-weaker}
use Rattle.clap.specs.Simple.{Shape, app_of, app_of_fields, on_top, with_rule}
use Rattle.clap.specs.declared.builder.command.Command.{Command}
use Rattle.clap.specs.declared.builder.command.Command.TheOpen.{Command-F}
use Rattle.dqcheck_words.specs.Parsed.{flagless}
use Rattle.dqcheck_words.proofs.files.checker_command.Goals as goal

pub returns : goal.returns
returns c =
    let flagless_is : app_of c.disable_version_flag.result ≡ flagless (codes "dqcheck") =
    ap app_of_fields c.disable_version_flag.ensures
    ∙ ap (λ (f : Command-F Command). app_of_fields (record f { disable_version_flag = true }))
    c.disable_help_flag.ensures
    ∙ ap (on_top (λ (top : Shape). record top { disable_help_flag = true; disable_version_flag = true }))
    c.new.ensures.app in
    let formula_is : app_of c.in_ok-arg.field-0 ≡ with_rule (flagless (codes "dqcheck")) _ =
    c.in_ok-arg.ensures.shape c.file_argument-formula.ensures.local
    ∙ ap₂ with_rule flagless_is c.file_argument-formula.ensures.rule in
    IfOk-weaker c.arg-2.result _ _
    (λ command added. added.shape c.file_argument-certificate.ensures.local
    ∙ ap₂ with_rule formula_is c.file_argument-certificate.ensures.rule) c.arg-2.ensures
