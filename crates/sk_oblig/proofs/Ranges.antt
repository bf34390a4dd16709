-- Whether values are below sizes, by their bits.
use Rattle.std.proofs.Common.{◌≡◌, ℕ, zero, suc, ◌+◌, ◌-◌, ◌%◌, ◌^◌, ◌<◌, ◌≤◌, Bool, true, false, true≢false, not, ◌&&◌, ◌↔◌, List, [], ◌∷◌, ◌++◌, length, take, get_or, refl, sym, ap, subst, ◌∙◌, arith, ◌⊎◌, inl, inr}
use Rattle.std.specs.Prelude.{nat_le, nat_lt, slice_index, if◌then◌else◌}
use Rattle.std.proofs.Math.Pow.{pow_mono}
use Rattle.std.proofs.lemmas.Bool.{cases_order, ltb-true, lt-ltb, leb-false}
use Rattle.std.proofs.lemmas.Bool.Decides.{nat_tests}
use Rattle.std.proofs.lemmas.List.{take_more, take_all, length-take-le}
use Rattle.sk_dag.specs.declared.env.Env.{Env}
use Rattle.sk_dag.specs.declared.node.BoolId.{BoolId}
use Rattle.sk_dag.specs.Graph.{Graph, Grows, HasBool}
use Rattle.sk_dag.specs.Eval.{bool_value, Keeps}
use Rattle.sk_arr.proofs.Makers.{Keeps-refl}
use Rattle.sk_sym_folds.proofs.LowBits.{above_whole}
use Rattle.sk_model.specs.declared.expanded.Site.{Site}
use Rattle.sk_model.specs.Fill.{Fits}
use Rattle.sk_oblig_queries.specs.Numbers.{first_power, bits_of_size}
use Rattle.sk_oblig_queries.specs.Widths.{sites_widths}
use Rattle.sk_oblig_laws.specs.Laws.{StartsBelow}
use Rattle.sk_oblig.specs.Nodes.{Within, SaysInRange}

-- Bits of sizes

least_power : (s k b c : ℕ) → b ≤ c → c ≤ b + k → s ≤ 2 ^ c → first_power s k b ≤ c
least_power s zero b c h l p = h
least_power s (suc k) b c h l p = by (nat_le s (2 ^ b)) refl (least_power s k (b + 1) c)
  where
    by : (t : Bool) → nat_le s (2 ^ b) ≡ t → (b + 1 ≤ c → c ≤ b + 1 + k → s ≤ 2 ^ c → first_power s k (b + 1) ≤ c) → (if t then b else first_power s k (b + 1)) ≤ c
    by true e rest = h
    by false e rest =
        let more : 2 ^ b < s = leb-false s (2 ^ b) e in
        rest (after more (cases_order b c)) (omega (arith, l)) p
      where
        after : 2 ^ b < s → (b ≡ c) ⊎ ((b < c) ⊎ (c < b)) → b + 1 ≤ c
        after more (inl same) = absurd (omega (arith, more, subst (λ j. s ≤ 2 ^ j) (sym same) p))
        after more (inr (inl less)) = omega (arith, less)
        after more (inr (inr past)) = absurd (omega (arith, past, h))

pub bits_least : (s w : ℕ) → w ≤ 64 → s ≤ 2 ^ w → bits_of_size s ≤ w
unfolding bits_of_size
bits_least s w h p = least_power s 64 0 w (omega arith) (omega (arith, h)) p

pub below_size : (v size w : ℕ) → 0 < size → size - 1 < 2 ^ w → w < 65 → v < 2 ^ bits_of_size size → not (nat_lt ((size - 1) % 2 ^ w) (v % 2 ^ w)) ≡ nat_lt v size
below_size v size w p wide few h =
    let least : bits_of_size size ≤ w = bits_least size w (omega (arith, few)) (omega (arith, wide, p)) in
    let up : 2 ^ bits_of_size size ≤ 2 ^ w = pow_mono {i = bits_of_size size} {j = w} least in
    ap not (above_whole v (size - 1) w (omega (arith, h, up)) wide) ∙ flipped
  where
    flipped : not (nat_lt (size - 1) v) ≡ nat_lt v size
    flipped = grind (arith, nat_tests, p)

-- Values of a list of sites

-- both are true exactly where each is
pub both_true : (x y : Bool) → ((x && y) ≡ true) ↔ ((x ≡ true) × (y ≡ true))
both_true true y = (λ h. (refl, h), λ h. h.1)
both_true false y = (λ h. absurd (true≢false (sym h)), λ h. absurd (true≢false (sym h.0)))

last_below : (ss : List Site) (s : Site) (vs : List ℕ) → StartsBelow (sites_widths (ss ++ s ∷ [])) vs → StartsBelow (sites_widths ss) vs × (slice_index vs (length ss) < 2 ^ bits_of_size s.size)
last_below [] s [] h = absurd h
last_below [] s (v ∷ vs) h = (tt, h.0)
last_below (t ∷ ss) s [] h = absurd h
last_below (t ∷ ss) s (v ∷ vs) h = let r = last_below ss s vs h.1 in ((h.0, r.0), r.1)

last_within : (ss : List Site) (s : Site) (vs : List ℕ) → StartsBelow (sites_widths (ss ++ s ∷ [])) vs → Within (ss ++ s ∷ []) vs ↔ (Within ss vs × (slice_index vs (length ss) < s.size))
last_within [] s [] h = absurd h
last_within [] s (v ∷ vs) h = (λ w. (tt, w.0), λ w. (w.1, tt))
last_within (t ∷ ss) s [] h = absurd h
last_within (t ∷ ss) s (v ∷ vs) h =
    let r = last_within ss s vs h.1 in
    (λ w. let p = r.0 w.1 in ((w.0, p.0), p.1), λ w. (w.0.0, r.1 (w.0.1, w.1)))

pub range_none : {d : Graph} (r : BoolId) → HasBool d.nodes r → ((g : Graph) → Grows d g → (e : Env) → bool_value g e r ≡ true) → SaysInRange d [] r
range_none r there is = record { there = there; value = λ g e m below. (λ h. tt, λ h. is g m e) }

pub range_more : {a b c : Graph} (sites : List Site) (i place : ℕ) (d : Site) (all one next : BoolId) → i < length sites → place ≡ i
    → Keeps a b → Keeps b c → SaysInRange a (take i sites) all
    → ((g : Graph) → Grows b g → (e : Env) → slice_index e.choice place < 2 ^ bits_of_size (get_or sites i d).size → bool_value g e one ≡ nat_lt (slice_index e.choice place) (get_or sites i d).size)
    → HasBool c.nodes next → ((g : Graph) → Grows c g → (e : Env) → bool_value g e next ≡ (bool_value g e all && bool_value g e one))
    → SaysInRange c (take (i + 1) sites) next
range_more {a} {b} {c} sites i place d all one next l here k1 k2 before one_is there next_is =
    let long : length (take i sites) ≡ i = length-take-le i sites (omega (arith, l)) in
    let s : Site = get_or sites i d in
    let more : take (i + 1) sites ≡ take i sites ++ s ∷ [] = take_more sites i d l in
    subst (λ (ss : List Site). SaysInRange c ss next) (sym more) (record {
      there = there;
      value = λ g e m below.
          let m1 = k2.later g m in
          let m0 = k1.later g m1 in
          let parts = last_below (take i sites) s e.choice below in
          let within = last_within (take i sites) s e.choice below in
          let small = subst (λ j. slice_index e.choice j < 2 ^ bits_of_size s.size) (long ∙ sym here) parts.1 in
          let is : bool_value g e one ≡ nat_lt (slice_index e.choice (length (take i sites))) s.size = one_is g m1 e small ∙ ap (λ j. nat_lt (slice_index e.choice j) s.size) (here ∙ sym long) in
          let front = before.value g e m0 parts.0 in
          let both = both_true (bool_value g e all) (bool_value g e one) in (
            λ h. let p = both.0 (sym (next_is g m e) ∙ h) in within.1 (front.0 p.0, ltb-true (slice_index e.choice (length (take i sites))) s.size (sym is ∙ p.1)),
            λ h. let p = within.0 h in next_is g m e ∙ both.1 (front.1 p.0, is ∙ lt-ltb (slice_index e.choice (length (take i sites))) s.size p.1),
          );
    })

pub range_all : {d : Graph} (sites : List Site) (i : ℕ) (r : BoolId) → length sites ≤ i → SaysInRange d (take i sites) r → SaysInRange d sites r
range_all {d} sites i r h is = subst (λ (ss : List Site). SaysInRange d ss r) (take_all i sites h) is

-- in range is within, with a value for each site
pub fits_within : (ss : List Site) (vs : List ℕ) → length vs ≡ length ss → Within ss vs → Fits ss vs
fits_within [] [] l h = tt
fits_within [] (v ∷ vs) l h = absurd (omega (arith, l))
fits_within (s ∷ ss) [] l h = absurd h
fits_within (s ∷ ss) (v ∷ vs) l h = (h.0, fits_within ss vs (omega (arith, l)) h.1)

pub within_fits : (ss : List Site) (vs : List ℕ) → Fits ss vs → Within ss vs
within_fits [] vs h = tt
within_fits (s ∷ ss) [] h = absurd h
within_fits (s ∷ ss) (v ∷ vs) h = (h.0, within_fits ss vs h.1)

pub ruleset in_range = (range_none, range_all, Keeps-refl)
