use Rattle.std.proofs.Common.{rules, ◌≡◌, ◌+◌, ◌++◌, ℕ, min, List, length, take, Option, Some, None, refl, ◌∙◌, ap, subst, arith, append_assoc, length-append}
use Rattle.std.specs.Io.KnownBytes.{prepend_known}
use Rattle.std.proofs.lemmas.List.{length-take}
use Rattle.dq_io.proofs.feeding.feed_all.Goals as goal

in_two : (a b : List ℕ) (rest : Option (List ℕ)) → prepend_known (a ++ b) rest ≡ prepend_known a (prepend_known b rest)
in_two a b None = refl
in_two a b (Some xs) = ap Some (append_assoc a b xs)

pub loop-count-preserved : goal.loop-count-preserved
loop-count-preserved g c =
    let k = c.loop-count.invariant in
    let n = c.in-Ok.count in
    let piece = take n c.read.new.buf in
    let whole : min n (length c.read.new.buf) ≡ n = omega (arith, c.in-Ok.ensures.bound) in
    let size : length piece ≡ n = length-take n c.read.new.buf ∙ whole in
    record {
      fed = k.fed ++ piece;
      stands = λ text h. subst (λ xs. g.T.Feed.stands c.feed.new.self xs) (append_assoc text k.fed piece)
          (c.feed.ensures.stands (text ++ k.fed) (k.stands text h));
      subject = c.feed.ensures.subject ∙ k.subject;
      count = length-append k.fed piece ∙ ap (λ m. m + length piece) k.count ∙ ap (λ m. c.loop-count.given + m) size;
      given = c.in-Ok.ensures.given ∙ ap (λ m. m + n) k.given;
      within = search rules;
      told = in_two k.fed piece (g.F.Files.rest c.read.new.self) ∙ ap (prepend_known k.fed) c.in-Ok.ensures.moved
          ∙ k.told;
      unfaulted = search rules;
      held = search rules;
      picked = search rules;
      still_reliable = search rules;
      buffer = search rules;
    }
