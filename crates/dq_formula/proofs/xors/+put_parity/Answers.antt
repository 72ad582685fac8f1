use Rattle.std.proofs.Common.{◌≡◌, ◌<◌, ◌+◌, ◌-◌, ◌++◌, ◌∷◌, [], ℕ, not, suc, length, map, drop, slice_set, sym, ◌∙◌, ap, arith}
use Rattle.std.proofs.lemmas.List.{drop-set, length-set, length-map}
use Rattle.dq_lits.specs.Literal.{opposite}
use Rattle.dq_formula.specs.declared.formula.TheConstants.{MAX_CLAUSES}
use Rattle.dq_formula.specs.Xor.{first_parity_clauses}
use Rattle.dq_formula.proofs.BlockSteps.{put_less}
use Rattle.dq_formula.proofs.XorSteps.{parity-count, room_first, room_second, few_second, drop-next, both_put}
use Rattle.dq_formula.proofs.xors.+put_parity.Goals as goal

pub returns-then-even-clause-put : goal.returns-then-even-clause-put
returns-then-even-clause-put t c =
    search (arith, (put_less c.args.blocks.now c.put.new.self (c.args.clause.now ∷ []) (length c.args.clause.now) 5))

pub put_parity-requires : goal.put_parity-requires
put_parity-requires t c =
    let m = c.args.n - 1 in
    let even = c.args.even in
    let lits = c.args.lits.now in
    let l : m < length lits = omega (arith, c.requires.within, c.if-n-eq0.false) in
    let is : c.args.n ≡ suc m = omega (arith, c.if-n-eq0.false) in
    let count = parity-count even lits c.args.n m c.index-lits-n.result is l in (
      omega (arith, c.decreases, c.if-n-eq0.false),
      (
        c.requires.arranged,
        (
          omega (arith, l),
          (
            length-set c.args.clause.now m c.index-lits-n.result ∙ c.requires.size,
            (
              c.requires.short,
              (
                omega (arith, c.requires.few, count),
                (room_first c.args.blocks.now (length (first_parity_clauses even lits m))
                    (length (first_parity_clauses (not even) lits m))
                    (length (first_parity_clauses even lits c.args.n)) count c.requires.room),
              ),
            ),
          ),
        ),
      ),
    )

pub put_parity-requires-2 : goal.put_parity-requires-2
put_parity-requires-2 t c =
    let m = c.args.n - 1 in
    let even = c.args.even in
    let lits = c.args.lits.now in
    let l : m < length lits = omega (arith, c.requires.within, c.if-n-eq0.false) in
    let is : c.args.n ≡ suc m = omega (arith, c.if-n-eq0.false) in
    let count = parity-count even lits c.args.n m c.index-lits-n.result is l in
    let first = slice_set c.args.clause.now m c.index-lits-n.result in
    let xs = first_parity_clauses even lits m in
    let x = length xs in
    let y = length (first_parity_clauses (not even) lits m) in
    let p = length (first_parity_clauses even lits c.args.n) in
    let put = map (λ k. k ++ drop m first) xs in
    let size = length-map xs (λ k. k ++ drop m first) in (
      omega (arith, c.decreases, c.if-n-eq0.false),
      (
        c.put_parity.ensures.put.arranged,
        (
          omega (arith, l),
          (
            length-set c.put_parity.new.clause m c.not.result ∙ c.put_parity.ensures.size
                ∙ length-set c.args.clause.now m c.index-lits-n.result ∙ c.requires.size,
            (
              c.requires.short,
              (
                few_second c.args.blocks.now c.put_parity.new.blocks put x y p MAX_CLAUSES size
                    count c.put_parity.ensures.put c.requires.few,
                (room_second c.args.blocks.now c.put_parity.new.blocks put x y p size count
                    c.put_parity.ensures.put c.requires.room),
              ),
            ),
          ),
        ),
      ),
    )

-- what is behind the first n literals of the clause, after the first half and after the second
behind_first : (t : ℕ) (c : goal.After-clause-2-1 t) → drop (c.args.n - 1)
    (slice_set c.args.clause.now (c.args.n - 1) c.index-lits-n.result)
    ≡ c.index-lits-n.result ∷ drop c.args.n c.args.clause.now
behind_first t c =
    let m = c.args.n - 1 in
    let l : m < length c.args.clause.now = omega (arith, c.requires.within, c.requires.size, c.if-n-eq0.false) in
    let is : m + 1 ≡ c.args.n = omega (arith, c.if-n-eq0.false) in
    drop-set c.args.clause.now m c.index-lits-n.result l ∙ ap (λ n. c.index-lits-n.result ∷ drop n c.args.clause.now) is

behind_second : (t : ℕ) (c : goal.After-clause-2-1 t) → drop (c.args.n - 1)
    (slice_set c.put_parity.new.clause (c.args.n - 1) c.not.result) ≡ c.not.result ∷ drop c.args.n c.args.clause.now
behind_second t c =
    let m = c.args.n - 1 in
    let size = c.put_parity.ensures.size ∙ length-set c.args.clause.now m c.index-lits-n.result in
    let l : m < length c.put_parity.new.clause = omega (
      arith,
      size,
      c.requires.within,
      c.requires.size,
      c.if-n-eq0.false,
    ) in
    drop-set c.put_parity.new.clause m c.not.result l
    ∙ ap (λ rest. c.not.result ∷ rest) (drop-next c.put_parity.new.clause
    (drop c.args.n c.args.clause.now) m c.index-lits-n.result (c.put_parity.ensures.behind ∙ behind_first t c))

pub returns-clause-put : goal.returns-clause-put
returns-clause-put t c =
    let m = c.args.n - 1 in
    let even = c.args.even in
    let lits = c.args.lits.now in
    let l : m < length lits = omega (arith, c.requires.within, c.if-n-eq0.false) in
    let is : c.args.n ≡ suc m = omega (arith, c.if-n-eq0.false) in
    let d = c.index-lits-n.result in
    let count = parity-count even lits c.args.n m d is l in
    let first = drop m (slice_set c.args.clause.now m d) in
    let second = drop m (slice_set c.put_parity.new.clause m c.not.result) in
    let rest = drop c.args.n c.args.clause.now in
    let one = behind_first t c ∙ ap (λ k. k ∷ rest) c.index-lits-n.is in
    let two = behind_second t c ∙ ap (λ k. k ∷ rest) (c.not.ensures ∙ ap opposite c.index-lits-n.is) in
    both_put c.args.blocks.now c.put_parity.new.blocks c.put_parity-2.new.blocks even lits rest first second c.args.n m
    (length (first_parity_clauses even lits m)) (length (first_parity_clauses (not even) lits m))
    (length (first_parity_clauses even lits c.args.n)) d
    is l count one two c.put_parity.ensures.put c.put_parity-2.ensures.put

pub returns-clause-behind : goal.returns-clause-behind
returns-clause-behind t c =
    let m = c.args.n - 1 in
    let is : m + 1 ≡ c.args.n = omega (arith, c.if-n-eq0.false) in
    ap (λ n. drop n c.put_parity-2.new.clause) (sym is)
    ∙ drop-next c.put_parity-2.new.clause (drop c.args.n c.args.clause.now) m c.not.result
    (c.put_parity-2.ensures.behind ∙ behind_second t c)
