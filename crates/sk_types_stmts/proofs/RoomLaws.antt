-- The greatest of several numbers, a test of all statements, through a map and without one, and the ends of names.
use Rattle.std.proofs.Common.{◌≡◌, ℕ, suc, ◌+◌, ◌<◌, List, [], ◌∷◌, length, drop, get_or, refl, sym, ap, ◌∙◌, add-one, arith}
use Rattle.std.specs.Prelude.{map, max, ◌&&◌, ◌||◌}
use Rattle.std.specs.List.{list_all}
use Rattle.std.proofs.Math.Seq.{drop-cons}
use Rattle.sk_prog.specs.declared.stmt.PStmt.{PStmt}
use Rattle.sk_types_rules.specs.Types.{is_yes, stmt_free, is_copy_mark, ends_as_copy}
use Rattle.sk_types_names.proofs.Places.{split_at}

pub max_step : (g m r : ℕ) → max g (max m r) ≡ max (max g m) r
max_step g m r = omega arith

pub max_least : (m : ℕ) → max 0 m ≡ m
max_least m = omega arith

pub all_free : (ps : List PStmt) → list_all is_yes (map stmt_free ps) ≡ list_all stmt_free ps
all_free [] = refl
all_free (p ∷ ps) = ap (λ b. stmt_free p && b) (all_free ps)

step : (l : List ℕ) (x : ℕ) (r : List ℕ) → l ≡ x ∷ r → ends_as_copy l ≡ (is_copy_mark l || ends_as_copy r)
step l x r e = rw e refl

-- a name ends as those of copies do where it is such an end, or its rest ends so
pub ends_next : (bs : List ℕ) (i : ℕ) → i < length bs → ends_as_copy (drop i bs) ≡ (is_copy_mark (drop i bs) || ends_as_copy (drop (i + 1) bs))
ends_next bs i h = step (drop i bs) (get_or bs i 0) (drop (suc i) bs) (drop-cons bs i 0 h) ∙ ap (λ n. is_copy_mark (drop i bs) || ends_as_copy (drop n bs)) (sym (add-one i))

pub ruleset rooms = (split_at, max_step, max_least)
