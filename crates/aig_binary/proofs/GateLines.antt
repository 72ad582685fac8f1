-- A line that begins within the gates.
use Rattle.std.proofs.Common.{◌≡◌, ◌≢◌, ℕ, ◌-◌, ◌<◌, Bool, true, false, inr, List, [], ◌∷◌, ◌++◌, length, drop, None, Some, Result, Ok, Err, refl, sym, ◌∙◌, ap, arith, append-nil}
use Rattle.std.specs.List.{All}
use Rattle.std.proofs.Math.Seq.{drop-length}
use Rattle.std.proofs.lemmas.List.{length-drop}
use Rattle.std.proofs.lemmas.List.Elements.{All-drop}
use Rattle.aiger_text.specs.declared.faults.AagStop.{AagStop}
use Rattle.aiger_text.specs.declared.faults.AagStop.TheVariants.{Refused, Memory}
use Rattle.aig_binary.specs.FilesByLine.{binary_gives, GoesOn, TakesBinary, TakesBytes, TakesFeed, TakesText}
use Rattle.aig_binary.specs.declared.files_by_line.AigLines.{AigLines}
use Rattle.aig_binary.proofs.LinesTaken.{some_behind}

abbrev NoFeed : ℕ → Type 0
NoFeed byte = byte ≢ 10

module _ (old mid : AigLines) (text : List ℕ) where
  -- the gates go on behind the line's end
  module _ (new : AigLines) (takes : TakesBytes old text (Ok None) mid) where
    to_feed : (behind : List ℕ) → binary_gives old (text ++ (10 ∷ behind)) ≡ binary_gives mid (10 ∷ behind)
    to_feed behind = takes (10 ∷ behind)

    pub fed_gates : (r : Result (Unit {0}) AagStop) → TakesFeed mid r new → TakesBinary old text true r new
    fed_gates (Ok _) feeds = record {
      line = λ bytes behind line. ap (binary_gives old) (line.fed refl) ∙ to_feed behind ∙ feeds behind;
      end = 10 ∷ [];
      any = λ behind. to_feed behind ∙ feeds behind;
    }
    fed_gates (Err (Refused line name)) feeds = search (arith, to_feed)
    fed_gates (Err Memory) feeds = tt

  pub gates_stop : (ended : Bool) (new : AigLines) (stop : AagStop) → TakesBytes old text (Err stop) new →
      TakesBinary old text ended (Err stop) new
  gates_stop true new (Refused line name) takes = search arith
  gates_stop false new (Refused line name) takes = λ bytes behind is.
      ap (binary_gives old) ((is.last refl).1 ∙ sym (append-nil text)) ∙ takes []
  gates_stop ended new Memory takes = tt

  -- all gates came, and so many bytes are left
  module _ (left : ℕ) (takes : TakesBytes old text (Ok (Some left)) mid) where
    abbrev rest : List ℕ
    rest = drop (length text - left) text

    -- no symbol begins on the line, where the text ends
    pub no_rest : left ≡ 0 → GoesOn old text false mid
    no_rest none =
        let whole : length text - 0 ≡ length text = omega arith in
        let nothing : rest ≡ [] =
        ap (λ k. drop (length text - k) text) none ∙ ap (λ k. drop k text) whole ∙ drop-length text in
        let any : (behind : List ℕ) → binary_gives old (text ++ behind) ≡ binary_gives mid behind =
        λ behind. takes.2 behind ∙ ap (λ r. binary_gives mid (r ++ behind)) nothing in
        record {
          line = search (arith, append-nil);
          end = [];
          any = any;
        }

    -- a symbol's line begins there
    module _ (new : AigLines) (free : All NoFeed text) where
      free_rest : All NoFeed rest
      free_rest = All-drop NoFeed (length text - left) text free

      rest_fed : (r : Result (Unit {0}) AagStop) → TakesText mid rest (Ok tt) new → (behind : List ℕ) →
          binary_gives old (text ++ (10 ∷ behind)) ≡ binary_gives new behind
      rest_fed r reads behind = search (arith, free_rest, some_behind)

      some_rest : 0 < left → rest ≢ []
      some_rest some = λ none.
          let long : length rest ≡ length text - (length text - left) = length-drop (length text - left) text in
          let empty : length rest ≡ 0 = ap length none in
          let below = takes.0 in
          absurd (omega (arith, long, empty, some, below))

      pub rest_taken : (ended : Bool) (r : Result (Unit {0}) AagStop) → (ended ≡ false → 0 < left) →
          TakesText mid rest r new → TakesBinary old text ended r new
      rest_taken true (Ok _) some reads = record {
        line = λ bytes behind line. ap (binary_gives old) (line.fed refl) ∙ rest_fed (Ok tt) reads behind;
        end = 10 ∷ [];
        any = rest_fed (Ok tt) reads;
      }
      rest_taken false (Ok _) some reads = record {
        line = λ bytes behind line.
            let last = line.last refl in
            ap (binary_gives old) (last.1 ∙ sym (append-nil text)) ∙ takes.2 []
            ∙ ap (binary_gives mid) (append-nil rest)
            ∙ reads rest behind (record { parts = inr (refl, last.2); one_line = free_rest }) (some_rest (some refl));
        end = 10 ∷ [];
        any = rest_fed (Ok tt) reads;
      }
      rest_taken true (Err (Refused line name)) some reads = search (arith, free_rest, some_behind)
      rest_taken false (Err (Refused line name)) some reads = λ bytes behind is.
          ap (binary_gives old) ((is.last refl).1 ∙ sym (append-nil text)) ∙ takes.2 []
          ∙ ap (binary_gives mid) (append-nil rest)
          ∙ reads rest behind (record { parts = inr (refl, (is.last refl).2); one_line = free_rest })
          (some_rest (some refl))
      rest_taken ended (Err Memory) some reads = tt
