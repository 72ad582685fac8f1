-- What follows from what holds of every log.
use Rattle.std.proofs.Common.{◌≡◌, List, [], ◌∷◌, None, arith}
use Rattle.hint_log.specs.Conditions.{AreIds, AreLogged}
use Rattle.hint_log.specs.Entries.{hints_of, name_of, Entry, Named, Given, Learned, Answer, Round, Begun}

-- each hint is an earlier id
abbrev pub AreEarlier : List Entry → Type 0
AreEarlier [] = Unit {0}
AreEarlier (e ∷ earlier) = AreIds earlier (hints_of e) × AreEarlier earlier

-- no variable is named twice
abbrev pub AreNamedOnce : List Entry → Type 0
AreNamedOnce [] = Unit {0}
AreNamedOnce (Named v _ ∷ earlier) = (name_of earlier v ≡ None) × AreNamedOnce earlier
AreNamedOnce (Given _ _ ∷ earlier) = AreNamedOnce earlier
AreNamedOnce (Learned _ _ ∷ earlier) = AreNamedOnce earlier
AreNamedOnce (Answer _ _ ∷ earlier) = AreNamedOnce earlier
AreNamedOnce (Round _ _ _ ∷ earlier) = AreNamedOnce earlier
AreNamedOnce (Begun _ ∷ earlier) = AreNamedOnce earlier

no_ids : (entries : List Entry) → AreIds entries []
no_ids entries hint has = let below = has.1 in absurd (omega (arith, below))

pub are_earlier : (entries : List Entry) → AreLogged entries → AreEarlier entries
are_earlier [] logged = tt
are_earlier (Learned _ _ ∷ es) logged = (logged.0.1, are_earlier es logged.1)
are_earlier (Answer _ _ ∷ es) logged = (logged.0.1, are_earlier es logged.1)
are_earlier (_ ∷ es) logged = (no_ids es, are_earlier es logged.1)

pub are_named_once : (entries : List Entry) → AreLogged entries → AreNamedOnce entries
are_named_once [] logged = tt
are_named_once (Named _ _ ∷ es) logged = (logged.0.unnamed, are_named_once es logged.1)
are_named_once (_ ∷ es) logged = are_named_once es logged.1
