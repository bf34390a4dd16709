-- The values of holes.
use Rattle.std.proofs.Common.{◌≡◌, ◌≢◌, Some, false, ℕ, zero, suc, ◌+◌, ◌==◌, ◌<◌, ◌≤◌, nat_lt, ◌&&◌, not, List, [], ◌∷◌, ◌++◌, map, length, get_or, pos, refl, sym, ap, subst, ◌∙◌, arith}
use Rattle.std.proofs.lemmas.Bool.{lt-ltb, ne_eqb}
use Rattle.std.proofs.lemmas.List.Elements.{All-nil, All-append}
use Rattle.sk_base.specs.Word.{wrapped}
use Rattle.sk_dag.specs.declared.env.Env.{Env}
use Rattle.sk_dag.specs.declared.node.BoolId.{BoolId}
use Rattle.sk_dag.specs.declared.node.WordId.{WordId}
use Rattle.sk_dag.specs.declared.shape.Shape.{Shape}
use Rattle.sk_dag.specs.declared.shape.Shape.TheVariants as shape
use Rattle.sk_dag.specs.Word.{bit_of}
use Rattle.sk_dag.specs.Graph.{Graph, Grows, HasBool, HasWord}
use Rattle.sk_dag.specs.Eval.{bool_value, word_value, Keeps}
use Rattle.sk_dag.specs.EvalShape.{shape_value}
use Rattle.sk_arr.specs.Shapes.{SlotsPass}
use Rattle.sk_arr.specs.Answers.{shapes_value}
use Rattle.sk_arr.proofs.Standing.{bit_stands, int_stands, array_stands, AllStand-keeps}
use Rattle.sk_arr.proofs.Values.{value_bit, value_int, value_array, bit_passes, int_passes, array_passes, map_push, stand_none, stand_push, passes_push}
use Rattle.sk_prog.specs.declared.ty.Elem.{Elem}
use Rattle.sk_prog.specs.declared.ty.Elem.TheVariants as elem
use Rattle.sk_prog.specs.declared.value.Value.{Value}
use Rattle.sk_prog.specs.declared.value.Value.TheVariants as value
use Rattle.sk_model.specs.declared.expanded.Choice.{Choice}
use Rattle.sk_model.specs.declared.expanded.Expanded.{Expanded}
use Rattle.sk_model.specs.declared.expanded.Site.{Site}
use Rattle.sk_model.specs.Parts.{value as site_value}
use Rattle.sk_model.specs.Fill.{Fits}
use Rattle.sk_model.specs.Eval.{number_at}
use Rattle.sk_model.specs.Open.{bits_at, hole_value}
use Rattle.sk_prog.specs.declared.ty.Ty.{Ty}
use Rattle.sk_prog.specs.declared.ty.Ty.TheVariants as ty
use Rattle.sk_model.specs.Values.{padded}
use Rattle.sk_arr.proofs.Makers.{Keeps-refl}
use Rattle.std.specs.Prelude.{Option}
use Rattle.sk_heap_laws.specs.Values.{value_of, IsLive, AllLive}
use Rattle.sk_heap_laws.proofs.Parts.{of_bit, of_int, of_array, live_bit, live_int, live_array, live_nil, live_cons}
use Rattle.sk_sym_literals.specs.Given.{IsGiven, IsMade, IsChosen, AreChosen}

-- ---- sizes

pub below_size : (sites : List Site) (values : List ℕ) → Fits sites values → (i : ℕ) (d : Site) → i < length sites → site_value values i < (get_or sites i d).size
below_size [] values h i d l = absurd (omega (arith, l))
below_size (s ∷ ss) [] h i d l = elim h [ ]
below_size (s ∷ ss) (v ∷ vs) h zero d l = h.0
below_size (s ∷ ss) (v ∷ vs) h (suc i) d l = below_size ss vs h.1 i d (omega (arith, l))

-- a site that is not there has the value 0
pub beyond : (sites : List Site) (values : List ℕ) → Fits sites values → (i : ℕ) → length sites ≤ i → site_value values i ≡ 0
beyond [] [] h i l = refl
beyond [] (v ∷ vs) h i l = elim h [ ]
beyond (s ∷ ss) [] h i l = elim h [ ]
beyond (s ∷ ss) (v ∷ vs) h zero l = absurd (omega (arith, l))
beyond (s ∷ ss) (v ∷ vs) h (suc i) l = beyond ss vs h.1 i (omega (arith, l))

pub beyond_size : (sites : List Site) (values : List ℕ) → Fits sites values → (i : ℕ) → length sites ≤ i → site_value values i < 1
beyond_size sites values h i l = let none : site_value values i ≡ 0 = beyond sites values h i l in omega (arith, none)

-- of any number, whether it is above 0
pub above_is : (v : ℕ) → nat_lt 0 v ≡ not (v == 0)
above_is zero = refl
above_is (suc v) = lt-ltb 0 (suc v) (omega arith) ∙ sym (ap not (ne_eqb (suc v) 0 (λ e. omega (arith, e))))

-- of a number that is at most 1, bit 0 tells whether it is 0
pub bit_is : (v : ℕ) → v ≤ 1 → (nat_lt 0 64 && bit_of v 0) ≡ not (v == 0)
bit_is zero l = refl
bit_is (suc zero) l = refl
bit_is (suc (suc v)) l = absurd (omega (arith, l))

-- ---- single holes

module _ {g : Graph} {expanded : Expanded} {choice : Env → Choice} where
  pub chosen_bit : {r : BoolId} (w site size : ℕ) → ((values : List ℕ) → Fits expanded.sites values → site_value values site < size) → HasBool g.nodes r → ((h : Graph) → Grows g h → (e : Env) → site_value (choice e).values site < size → bool_value h e r ≡ not (site_value (choice e).values site == 0)) → IsChosen g expanded choice (λ a. number_at w elem.Bit (site_value a.values site)) (shape.Bit r)
  chosen_bit {r} w site size below there known = record {
    stands = bit_stands g r there;
    unnamed = λ test. bit_passes test r;
    live = λ h e holds. subst (IsLive holds) (sym (value_bit h e r)) (live_bit holds (bool_value h e r));
    value = λ h more e range place.
        ap (value_of place) (value_bit h e r) ∙ of_bit place (bool_value h e r)
        ∙ ap (λ b. value.Bit b) (known h more e (below (choice e).values range.fits));
  }

  -- the bit of a site that has the value 0
  pub chosen_false : {r : Shape} (w site : ℕ) → IsGiven g (value.Bit false) r → ((values : List ℕ) → Fits expanded.sites values → site_value values site ≡ 0) → IsChosen g expanded choice (λ a. number_at w elem.Bit (site_value a.values site)) r
  chosen_false {r} w site is none = record {
    stands = is.stands;
    unnamed = is.unnamed;
    live = is.live;
    value = λ h more e range place. is.value h more e place ∙ sym (ap (λ v. value.Bit (not (v == 0))) (none (choice e).values range.fits));
  }

  -- a reference to nothing
  pub chosen_null : {r : Shape} → ((g : Graph) → IsGiven g value.Null r) → IsChosen g expanded choice (λ a. value.Null) r
  chosen_null {r} is = record {
    stands = (is g).stands;
    unnamed = (is g).unnamed;
    live = (is g).live;
    value = λ h more e range place. (is g).value h more e place;
  }

  pub chosen_word : {r : WordId} (w site : ℕ) → HasWord g.nodes r → ((h : Graph) → Grows g h → (e : Env) → word_value h e r ≡ wrapped w (pos (site_value (choice e).values site))) → IsChosen g expanded choice (λ a. number_at w elem.Int (site_value a.values site)) (shape.Int r)
  chosen_word {r} w site there known = record {
    stands = int_stands g r there;
    unnamed = λ test. int_passes test r;
    live = λ h e holds. subst (IsLive holds) (sym (value_int h e r)) (live_int holds (word_value h e r));
    value = λ h more e range place.
        ap (value_of place) (value_int h e r) ∙ of_int place (word_value h e r)
        ∙ ap (λ z. value.Int z) (known h more e);
  }

  -- an array of bits that are chosen
  pub chosen_row : {vs : Choice → List Value} {list : List Shape} → AreChosen g expanded choice vs list → IsChosen g expanded choice (λ a. value.Array (vs a)) (shape.Array list)
  chosen_row {vs} {list} are = record {
    stands = array_stands g list are.stand;
    unnamed = λ test. array_passes test list (are.unnamed test);
    live = λ h e holds. subst (IsLive holds) (sym (value_array h e list)) (live_array holds (shapes_value h e list) (are.live h e holds));
    value = λ h more e range place.
        ap (value_of place) (value_array h e list) ∙ of_array place (shapes_value h e list)
        ∙ ap (λ l. value.Array l) (are.value h more e range place);
  }

  pub chosen_none : AreChosen g expanded choice (λ a. []) []
  chosen_none = record {
    stand = stand_none g;
    unnamed = λ test. record { each = All-nil (SlotsPass test) };
    live = λ h e holds. live_nil holds;
    value = λ h more e range place. refl;
  }

-- ---- several

bits_more : (values : List ℕ) (w n i : ℕ) → bits_at values w (suc n) i ≡ bits_at values w n i ++ number_at w elem.Bit (site_value values (i + n)) ∷ []
bits_more values w zero i = ap (λ k. number_at w elem.Bit (site_value values k) ∷ []) (omega arith)
bits_more values w (suc n) i =
    ap (λ l. number_at w elem.Bit (site_value values i) ∷ l)
    (bits_more values w n (i + 1) ∙ ap (λ k. bits_at values w n (i + 1) ++ number_at w elem.Bit (site_value values k) ∷ []) (omega arith))

pub chosen_more : {d g : Graph} {expanded : Expanded} {choice : Env → Choice} {r : Shape} (w n site : ℕ) (list : List Shape) → AreChosen d expanded choice (λ a. bits_at a.values w n site) list → Keeps d g → IsChosen g expanded choice (λ a. number_at w elem.Bit (site_value a.values (site + n))) r → AreChosen g expanded choice (λ a. bits_at a.values w (n + 1) site) (list ++ r ∷ [])
chosen_more {d} {g} {expanded} {choice} {r} w n site list are keeps is = record {
  stand = stand_push list r (AllStand-keeps keeps are.stand) is.stands;
  unnamed = λ test. passes_push list r (are.unnamed test) (is.unnamed test);
  live = λ h e holds. subst (AllLive holds) (sym (map_push (shape_value h e) list r)) (record {
    each = All-append (IsLive holds) (shapes_value h e list) (shape_value h e r ∷ []) (are.live h e holds).each (live_cons holds (shape_value h e r) [] (is.live h e holds) (live_nil holds)).each;
  });
  value = λ h more e range place.
      let one_more : suc n ≡ n + 1 = omega arith in
      ap (map (value_of place)) (map_push (shape_value h e) list r)
      ∙ map_push (value_of place) (shapes_value h e list) (shape_value h e r)
      ∙ (λ i. are.value h (keeps.later h more) e range place i ++ is.value h more e range place i ∷ [])
      ∙ sym (bits_more (choice e).values w n site)
      ∙ ap (λ k. bits_at (choice e).values w k site) one_more;
}

pub chosen_all : {g : Graph} {expanded : Expanded} {choice : Env → Choice} {n m : ℕ} {list : List Shape} (w site : ℕ) → n ≡ m → AreChosen g expanded choice (λ a. bits_at a.values w n site) list → AreChosen g expanded choice (λ a. bits_at a.values w m site) list
chosen_all {g} {expanded} {choice} {list = list} w site = subst (λ k. AreChosen g expanded choice (λ a. bits_at a.values w k site) list)

-- what is made of a value that is chosen
pub made_chosen : {d g : Graph} {expanded : Expanded} {choice : Env → Choice} {v : Choice → Value} {a r : Shape} {f : Value → Value} → IsChosen d expanded choice v a → Keeps d g → IsMade g a f r → IsChosen g expanded choice (λ c. f (v c)) r
made_chosen {f = f} is keeps made = record {
  stands = made.stands;
  unnamed = λ test. made.named test (is.unnamed test);
  live = λ h e holds. made.live h e holds (is.live h e holds);
  value = λ h more e range place. made.value h more e place ∙ ap f (is.value h (keeps.later h more) e range place);
}

-- in other words
pub chosen_as : {g : Graph} {expanded : Expanded} {choice : Env → Choice} {v u : Choice → Value} {r : Shape} → ((c : Choice) → v c ≡ u c) → IsChosen g expanded choice u r → IsChosen g expanded choice v r
chosen_as {choice = choice} same is = record {
  stands = is.stands;
  unnamed = is.unnamed;
  live = is.live;
  value = λ h more e range place. is.value h more e range place ∙ sym (same (choice e));
}

-- a hole that is an array of others than bits has one site
pub one_site : (values : List ℕ) (w n site : ℕ) (e : Elem) → e ≢ elem.Bit → hole_value values w (Some (ty.Array e n)) site ≡ padded (ty.Array e n) (number_at w e (site_value values site))
one_site values w n site elem.Bit other = absurd (other refl)
one_site values w n site elem.Int other = refl
one_site values w n site (elem.Reference s) other = refl

-- the same in the words of a match on the type
pub hole_as : {g : Graph} {expanded : Expanded} {choice : Env → Choice} {t u : Option Ty} {r : Shape} (w site : ℕ) → t ≡ u → IsChosen g expanded choice (λ a. hole_value a.values w u site) r → IsChosen g expanded choice (λ a. hole_value a.values w t site) r
hole_as {g} {expanded} {choice} {r = r} w site same = subst (λ x. IsChosen g expanded choice (λ a. hole_value a.values w x site) r) (sym same)

pub single_as : {g : Graph} {expanded : Expanded} {choice : Env → Choice} {t u : Elem} {r : Shape} (w site : ℕ) → t ≡ u → IsChosen g expanded choice (λ a. number_at w u (site_value a.values site)) r → IsChosen g expanded choice (λ a. number_at w t (site_value a.values site)) r
single_as {g} {expanded} {choice} {r = r} w site same = subst (λ x. IsChosen g expanded choice (λ a. number_at w x (site_value a.values site)) r) (sym same)

pub ruleset start = (Keeps-refl, chosen_none)
