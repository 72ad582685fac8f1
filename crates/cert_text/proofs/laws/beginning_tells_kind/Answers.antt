use Rattle.cert_text.proofs.SpelledKinds.{kind_told, kind_spelled}
use Rattle.cert_text.proofs.laws.beginning_tells_kind.Goals as goal

pub returns : goal.returns
returns c text kind = (kind_told text kind, kind_spelled text kind)
