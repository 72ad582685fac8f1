-- A solver that goes with a log: what the log has for that, and entries that are none of the
-- solver's business.
use Rattle.std.specs.Prelude.{ℕ, Bool, List, ◌∷◌}
use Rattle.dq_lits.specs.Literal.{Literal}
use Rattle.hint_log.specs.Entries.{Entry, Round, Begun}
use Rattle.oracle.specs.Fit.{Fit}
use Rattle.oracle.specs.Searched.{IsSearched}
use Rattle.learning_trail.specs.Resting.{HeldFit}

fit_searched : (held : List (List Literal)) (variables : ℕ) (entries : List Entry)
    → Fit held variables entries → IsSearched entries
fit_searched held variables entries fit =
    record {
      logged = fit.logged;
      selectors = fit.selectors;
      grouped = fit.grouped;
      negated = fit.negated;
      derived = fit.derived;
      new = fit.new;
      kept = fit.kept;
    }

fit_round : (held : List (List Literal)) (variables : ℕ) (entries : List Entry)
    (row values : List Bool) (j : ℕ)
    → Fit held variables entries → Fit held variables (Round row values j ∷ entries)
fit_round held variables entries row values j fit =
    record {
      count = fit.count;
      same = fit.same;
      in_range = fit.in_range;
      all_named = fit.all_named;
      logged = (tt, fit.logged);
      selectors = fit.selectors;
      grouped = (tt, fit.grouped);
      negated = λ id c l at h. record {
        named = (fit.negated id c l at h).named;
        negated = (fit.negated id c l at h).negated;
      };
      derived = (tt, fit.derived);
      new = (tt, fit.new);
      hinted = (tt, fit.hinted);
      kept = (tt, fit.kept);
    }

fit_begun : (held : List (List Literal)) (variables : ℕ) (entries : List Entry)
    (live : List ℕ) → Fit held variables entries → Fit held variables (Begun live ∷ entries)
fit_begun held variables entries live fit =
    record {
      count = fit.count;
      same = fit.same;
      in_range = fit.in_range;
      all_named = fit.all_named;
      logged = (tt, fit.logged);
      selectors = fit.selectors;
      grouped = (tt, fit.grouped);
      negated = λ id c l at h. record {
        named = (fit.negated id c l at h).named;
        negated = (fit.negated id c l at h).negated;
      };
      derived = (tt, fit.derived);
      new = (tt, fit.new);
      hinted = (tt, fit.hinted);
      kept = (tt, fit.kept);
    }

pub held_searched : (held : List (List Literal)) (resting : List Bool) (variables : ℕ)
    (entries : List Entry) → HeldFit held resting variables entries → IsSearched entries
held_searched held resting variables entries fit = fit_searched fit.whole variables entries fit.fit

pub held_round : (held : List (List Literal)) (resting : List Bool) (variables : ℕ)
    (entries : List Entry) (row values : List Bool) (j : ℕ)
    → HeldFit held resting variables entries
    → HeldFit held resting variables (Round row values j ∷ entries)
held_round held resting variables entries row values j fit =
    record {
      whole = fit.whole;
      fit = fit_round fit.whole variables entries row values j fit.fit;
      count = fit.count;
      same = fit.same;
      selectors = fit.selectors;
    }

pub held_begun : (held : List (List Literal)) (resting : List Bool) (variables : ℕ)
    (entries : List Entry) (live : List ℕ) → HeldFit held resting variables entries
    → HeldFit held resting variables (Begun live ∷ entries)
held_begun held resting variables entries live fit =
    record {
      whole = fit.whole;
      fit = fit_begun fit.whole variables entries live fit.fit;
      count = fit.count;
      same = fit.same;
      selectors = fit.selectors;
    }
