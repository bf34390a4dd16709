-- Slices by an index.
use Rattle.std.proofs.Common.{◌≡◌, ℕ, ◌+◌, ◌<◌, ◌≤◌, Bool, true, false, true≢false, not, List, [], ◌∷◌, ◌++◌, length, take, drop, get_or, slice_get, Some, None, ℤ, pos, negsuc, refl, sym, ap, subst, ◌∙◌, arith, if◌then◌else◌}
use Rattle.std.specs.Prelude.{nat_lt, nat_le}
use Rattle.std.proofs.lemmas.Bool.{ltb-true, ltb-false, le-leb, leb-true}
use Rattle.std.proofs.lemmas.Option.{get_or_from_slice_get}
use Rattle.std.proofs.lemmas.List.{take_more, get_or-take, get_or-drop, take-map, drop-map, length-drop, length-take-le}
use Rattle.std.proofs.lemmas.List.Elements.{All-nil, All-take, All-drop}
use Rattle.sk_dag.specs.declared.env.Env.{Env}
use Rattle.sk_dag.specs.declared.node.BoolId.{BoolId}
use Rattle.sk_dag.specs.declared.node.WordId.{WordId}
use Rattle.sk_dag.specs.declared.shape.Seen.{Seen}
use Rattle.sk_dag.specs.declared.shape.Shape.{Shape}
use Rattle.sk_dag.specs.Graph.{Graph, Grows, HasBool}
use Rattle.sk_dag.specs.Eval.{bool_value, word_value, Keeps}
use Rattle.sk_dag.specs.EvalShape.{shape_value}
use Rattle.sk_dag.proofs.EvalLemmas.{Keeps-trans}
use Rattle.sk_arr.specs.Places.{is_within, is_slice_within, slice_of}
use Rattle.sk_arr.specs.Shapes.{Alike, AlikeTo, AllAlike, Stands, AllStand, SlotsPass, AllSlotsPass}
use Rattle.sk_arr.specs.Answers.{shapes_value, IsSliced}
use Rattle.sk_arr.specs.Steps.{IsReadFrom, AreReadFrom}
use Rattle.sk_arr.proofs.Makers.{Keeps-refl}
use Rattle.sk_arr.proofs.Standing.{AllStand-keeps}
use Rattle.sk_arr.proofs.Values.{map_push, length_map, all_push, stand_none, stand_push, passes_push}

pub windows_none : (g : Graph) (list : List Shape) (from : WordId) (starts : ℕ) → AreReadFrom g list from starts 0 []
windows_none g list from starts = record {
  stand = stand_none g;
  alike = record { each = All-nil (λ a. AlikeTo a list) };
  long = refl;
  named = λ test p. record { each = All-nil (SlotsPass test) };
  value = λ h more e i l w. refl;
}

-- what stands in a window at i stands behind the first i in the place of the window
window_more : (vs : List Seen) (i j n : ℕ) (v : Seen) → i < n → i + j < length vs → slice_get (take n (drop j vs)) i ≡ Some v → take (j + 1) (drop i vs) ≡ take j (drop i vs) ++ v ∷ []
window_more vs i j n v l m e =
    let turn : i + j ≡ j + i = omega arith in
    let same : get_or (drop i vs) j v ≡ v =
    get_or-drop i vs j v ∙ ap (λ k. get_or vs k v) turn ∙ sym (get_or-drop j vs i v) ∙ sym (get_or-take n (drop j vs) i v l) ∙ get_or_from_slice_get (take n (drop j vs)) i v v e in
    take_more (drop i vs) j v (omega (arith, length-drop i vs, m)) ∙ ap (λ x. take j (drop i vs) ++ x ∷ []) same

module _ (list : List Shape) (j starts : ℕ) (fits : j + starts ≤ length list) where
  pub window_long : length (take starts (drop j list)) ≡ starts
  window_long = length-take-le starts (drop j list) (omega (arith, fits, length-drop j list))

  pub window_stands : {g : Graph} → AllStand g list → AllStand g (take starts (drop j list))
  window_stands {g} h = record { each = All-take (Stands g) starts (drop j list) (All-drop (Stands g) j list h.each) }

  pub window_passes : (test : ℕ → Bool) → AllSlotsPass test list → AllSlotsPass test (take starts (drop j list))
  window_passes test h = record { each = All-take (SlotsPass test) starts (drop j list) (All-drop (SlotsPass test) j list h.each) }

  window_first : (d : Shape) → 1 ≤ starts → get_or (take starts (drop j list)) 0 d ≡ get_or list j d
  window_first d l = get_or-take starts (drop j list) 0 d (omega (arith, l)) ∙ get_or-drop j list 0 d ∙ ap (λ k. get_or list k d) (omega arith)

  pub window_alike : (r : Shape) → 1 ≤ starts → AllAlike list → AlikeTo r (take starts (drop j list)) → AlikeTo r list
  window_alike r l all alike = record {
    each = λ i d lt.
        let first : Alike r (get_or list j d) = subst (Alike r) (window_first d l) (alike.each 0 d (omega (arith, l, window_long))) in
        first ∙ (all.each j d (omega (arith, fits, l))).each i d lt;
  }

  pub window_all_alike : AllAlike list → AllAlike (take starts (drop j list))
  window_all_alike all = record {
    each = All-take (λ a. AlikeTo a (take starts (drop j list))) starts (drop j list)
        (All-drop (λ a. AlikeTo a (take starts (drop j list))) j list
        (λ i d lt. record { each = All-take (Alike (get_or list i d)) starts (drop j list) (All-drop (Alike (get_or list i d)) j list (all.each i d lt).each) }));
  }

  pub window_value : (h : Graph) (e : Env) → shapes_value h e (take starts (drop j list)) ≡ take starts (drop j (shapes_value h e list))
  window_value h e = sym (take-map (shape_value h e) starts (drop j list)) ∙ ap (take starts) (sym (drop-map (shape_value h e) j list))

pub windows_more : {mid new : Graph} {list made : List Shape} {from : WordId} {starts : ℕ} (j : ℕ) (r : Shape) → AreReadFrom mid list from starts j made → Keeps mid new → IsReadFrom new (take starts (drop j list)) from r → j + starts ≤ length list → 1 ≤ starts → AllAlike list → AreReadFrom new list from starts (j + 1) (made ++ r ∷ [])
windows_more {mid} {new} {list} {made} {from} {starts} j r are k is fits some all = record {
  stand = stand_push made r (AllStand-keeps k are.stand) is.stands;
  alike = record { each = all_push (λ a. AlikeTo a list) made r are.alike.each (window_alike list j starts fits r some all is.alike) };
  long = long_push made r ∙ ap (λ n. n + 1) are.long;
  named = λ test p. passes_push made r (are.named test p) (is.named test (window_passes list j starts fits test p));
  value = λ h more e i l w.
      map_push (shape_value h e) made r
      ∙ ap (λ vs. vs ++ shape_value h e r ∷ []) (are.value h (k.later h more) e i l w)
      ∙ sym (window_more (shapes_value h e list) i j starts (shape_value h e r) l (omega (arith, fits, l, length_map (shape_value h e) list))
      (ap (λ vs. slice_get vs i) (sym (window_value list j starts fits h e)) ∙ is.value h more e i (omega (arith, l, window_long list j starts fits)) w));
}
  where
    long_push : (xs : List Shape) (x : Shape) → length (xs ++ x ∷ []) ≡ length xs + 1
    long_push [] x = refl
    long_push (y ∷ ys) x = omega (arith, long_push ys x)

slice_within : (n count starts : ℕ) (z : ℤ) → starts + count ≡ n + 1 → is_within starts z ≡ is_slice_within n count z
slice_within n count starts (negsuc i) e = refl
slice_within n count starts (pos i) e = by (nat_lt i starts) refl (nat_le (i + count) n) refl
  where
    by : (a : Bool) → nat_lt i starts ≡ a → (b : Bool) → nat_le (i + count) n ≡ b → nat_lt i starts ≡ nat_le (i + count) n
    by true p true q = p ∙ sym q
    by false p false q = p ∙ sym q
    by true p false q = absurd (true≢false (sym (le-leb (i + count) n (omega (arith, ltb-true i starts p, e))) ∙ q))
    by false p true q = absurd (omega (arith, ltb-false i starts p, leb-true (i + count) n q, e))

pub sliced : {mid new : Graph} {list made : List Shape} {from : WordId} {starts count : ℕ} {outside : BoolId} → AreReadFrom mid list from starts count made → starts + count ≡ length list + 1 → Keeps mid new → HasBool new.nodes outside → ((h : Graph) → Grows new h → (e : Env) → bool_value h e outside ≡ not (is_within starts (word_value h e from))) → IsSliced new list from count made outside
sliced {mid} {new} {list} {made} {from} {starts} {count} {outside} are fits k there left = record {
  stand = AllStand-keeps k are.stand;
  there = there;
  alike = are.alike;
  long = are.long;
  named = are.named;
  left = λ h more e. left h more e ∙ ap not (slice_within (length list) count starts (word_value h e from) fits);
  value = λ h more e inside. by h (k.later h more) e (word_value h e from) refl (within (is_within starts (word_value h e from)) (sym (left h more e) ∙ inside));
}
  where
    within : (b : Bool) → not b ≡ false → b ≡ true
    within true e = refl
    within false e = sym e

    by : (h : Graph) → Grows mid h → (e : Env) (z : ℤ) → word_value h e from ≡ z → is_within starts z ≡ true → slice_of (shapes_value h e list) z count ≡ Some (shapes_value h e made)
    by h more e (pos i) w t =
        let l : i < starts = ltb-true i starts t in
        ap (λ b. if b then Some (take count (drop i (shapes_value h e list))) else None) (le-leb (i + count) (length (shapes_value h e list)) (omega (arith, l, fits, length_map (shape_value h e) list)))
        ∙ ap (λ vs. Some vs) (sym (are.value h more e i l w))
    by h more e (negsuc i) w t = absurd (true≢false (sym t))

pub ruleset slices = (Keeps-refl, Keeps-trans, windows_none)

pub ruleset whole = (Keeps-trans, sliced)
