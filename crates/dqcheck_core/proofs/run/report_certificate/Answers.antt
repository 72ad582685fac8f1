use Rattle.std.proofs.Common.{◌∙◌}
use Rattle.dq_io.specs.State.{state_of}
use Rattle.cert_judge.specs.Streams.{StandsFor}
use Rattle.dqcheck_core.proofs.FedCertificates.{fed_cases, fed_long, fed_reported, whole_was_fed}
use Rattle.dqcheck_core.proofs.Runs.{long_reported, unreadable_reported}
use Rattle.dqcheck_core.proofs.run.report_certificate.Goals as goal

pub report_fed-requires : goal.report_fed-requires
report_fed-requires g c = c.feed_all-fed.ensures.subject ∙ c.new-stream.ensures.formula

pub returns-clause-reported : goal.returns-clause-reported
returns-clause-reported g c =
    let files = c.args.files.now in
    let now = c.feed_all-fed.new.files in
    let name = c.args.names.certificate.now in
    fed_cases c.feed_all-fed.result c.report_fed.ensures.judged
    (λ u read told. fed_reported (state_of g.F.Files files) (state_of g.F.Files now) name c.args.formula.now
    c.feed_all-fed.new.to c.report_fed.result
    (whole_was_fed (StandsFor c.new-stream.result) (StandsFor c.feed_all-fed.new.to) (g.F.Files.held files name)
    (g.F.Files.given now) c.feed_all-fed.result c.feed_all-fed.ensures.fed c.new-stream.ensures.stands u read
    (λ absent. let failed = c.feed_all-fed.ensures.absent absent in cc)
    (λ long. let told = c.feed_all-fed.ensures.too_long.1 long in cc))
    c.feed_all-fed.ensures.picked (c.feed_all-fed.ensures.unfaulted (λ failed. cc)) told)
    (λ failed. unreadable_reported (state_of g.F.Files files) (state_of g.F.Files now) name c.args.formula.now
    c.report_fed.result
    (record {
      counted = c.feed_all-fed.ensures.fault failed;
      absent = λ reliable. c.feed_all-fed.ensures.reliable reliable failed;
    })
    c.feed_all-fed.ensures.picked (c.report_fed.ensures.unreadable failed))
    (λ stopped.
    let more = c.feed_all-fed.ensures.too_long.0 stopped in
    long_reported (state_of g.F.Files files) (state_of g.F.Files now) name c.args.formula.now c.report_fed.result
    (record {
      long = fed_long (g.F.Files.held files name) (g.F.Files.given now) more c.feed_all-fed.ensures.longer
          (λ absent. let failed = c.feed_all-fed.ensures.absent absent in cc);
      given = more;
    })
    c.feed_all-fed.ensures.picked (c.feed_all-fed.ensures.unfaulted (λ failed. cc))
    (c.report_fed.ensures.too_long stopped))
