use Rattle.std.proofs.Common.{◌/◌, ◌^◌, sym, ◌∙◌, ap}
use Rattle.std.proofs.lemmas.Bool.{lt-leb}
use Rattle.aiger_text.specs.Lines.{is_positive}
use Rattle.aiger_text.proofs.Variables.{is_new, input_passes}
use Rattle.aiger_text.proofs.body.input_variable.Goals as goal

pub returns : goal.returns
returns c =
    let net = c.args.reader.now.circuit in
    let l = c.args.literal in
    let positive = ap (λ m. is_positive m l) (sym c.max_var.ensures.value) ∙ sym c.if-not-is_positive_literal.ensures in
    let undefined = sym (c.requires.defined (l / 2)) ∙ sym c.if-contains.ensures in (
      input_passes net l (lt-leb (10 ^ 18) l c.if-literal-ge-TOO_BIG.false) positive undefined,
      is_new net l positive undefined,
    )
