use Rattle.std.proofs.Common.{refl, ap, arith, length}
use Rattle.cdcl_core.proofs.EqualHeads.{arranged_same}
use Rattle.cdcl_core.proofs.arenas.Arena.reserve.Goals as goal

pub invariant_of-self : goal.invariant_of-self
invariant_of-self c =
    let s = c.self.inside in
    let i = c.self.invariant in
    let a = arranged_same s.literals.items c.reserve.new.self.items s.ends.items s.ends.items s.starts.items
    s.starts.items c.reserve.ensures.items refl refl i.ends i.count i.starts in
    record { ends = a.are_ends; count = a.count; starts = a.are_starts; spare = λ h. absurd (omega (arith, h)) }

pub invariant_of-self-in_err-make_fit : goal.invariant_of-self-in_err-make_fit
invariant_of-self-in_err-make_fit c =
    let s = c.self.inside in
    let i = c.self.invariant in
    let a =
    arranged_same s.literals.items c.reserve.new.self.items s.ends.items c.make_fit.new.numbers.items s.starts.items
    s.starts.items c.reserve.ensures.items c.make_fit.ensures.items refl i.ends i.count
    i.starts in
    record { ends = a.are_ends; count = a.count; starts = a.are_starts; spare = λ h. absurd (omega (arith, h)) }

pub invariant_of-self-in_err-make_fit-2 : goal.invariant_of-self-in_err-make_fit-2
invariant_of-self-in_err-make_fit-2 c =
    let s = c.self.inside in
    let i = c.self.invariant in
    let a =
    arranged_same s.literals.items c.reserve.new.self.items s.ends.items c.make_fit.new.numbers.items s.starts.items
    c.make_fit-2.new.numbers.items c.reserve.ensures.items c.make_fit.ensures.items
    c.make_fit-2.ensures.items i.ends i.count i.starts in
    record { ends = a.are_ends; count = a.count; starts = a.are_starts; spare = λ h. absurd (omega (arith, h)) }

pub invariant_of-self-2 : goal.invariant_of-self-2
invariant_of-self-2 c =
    let s = c.self.inside in
    let i = c.self.invariant in
    let a =
    arranged_same s.literals.items c.reserve.new.self.items s.ends.items c.make_fit.new.numbers.items s.starts.items
    c.make_fit-2.new.numbers.items c.reserve.ensures.items c.make_fit.ensures.items
    c.make_fit-2.ensures.items i.ends i.count i.starts in
    record {
      ends = a.are_ends;
      count = a.count;
      starts = a.are_starts;
      spare = λ h. record {
        literals = omega (arith, c.in_ok-reserve.ensures.ok, ap length c.reserve.ensures.items);
        ends = c.in_ok-make_fit.ensures.room;
        ends_fit = omega (arith, c.in_ok-make_fit.ensures.fits, c.len.ensures, c.reserve.new.self.ok.0);
        starts = c.in_ok-make_fit-2.ensures.room;
        starts_fit = omega (arith, c.in_ok-make_fit-2.ensures.fits, c.len-2.ensures.value);
      };
    }
