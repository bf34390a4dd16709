-- Shapes of single values that are given, and arrays made longer.
use Rattle.std.proofs.Common.{◌≡◌, ℕ, ℤ, ◌-◌, ◌≤◌, Bool, List, [], ◌++◌, map, length, append-nil, IsTrue, None, refl, sym, ap, subst, ◌∙◌, arith}
use Rattle.std.specs.Prelude.{replicate}
use Rattle.std.proofs.lemmas.List.{map-append}
use Rattle.std.proofs.lemmas.List.Elements.{All-nil, All-append}
use Rattle.sk_dag.specs.declared.env.Env.{Env}
use Rattle.sk_dag.specs.declared.node.BoolId.{BoolId}
use Rattle.sk_dag.specs.declared.node.WordId.{WordId}
use Rattle.sk_dag.specs.declared.shape.Targets.{Targets}
use Rattle.sk_dag.specs.declared.shape.Shape.{Shape}
use Rattle.sk_dag.specs.declared.shape.Shape.TheVariants as shape
use Rattle.sk_dag.specs.declared.shape.Seen.TheVariants as seen
use Rattle.sk_dag.specs.Graph.{Graph, Grows, HasBool, HasWord}
use Rattle.sk_dag.specs.Eval.{bool_value, word_value, Keeps}
use Rattle.sk_dag.specs.EvalShape.{shape_value, held_slot}
use Rattle.sk_simplify.proofs.RuleLemmas.{zero_word}
use Rattle.sk_arr.specs.Held.{held_in, AllIn, AllPass}
use Rattle.sk_arr.specs.Shapes.{Stands, AllStand, SlotsPass, AllSlotsPass}
use Rattle.sk_arr.specs.Answers.{shapes_value, IsPadded}
use Rattle.sk_arr.proofs.Makers.{Keeps-refl}
use Rattle.sk_arr.proofs.Targets.{none_in}
use Rattle.sk_arr.proofs.Standing.{bit_stands, int_stands, reference_stands, array_stands, AllStand-keeps}
use Rattle.sk_arr.proofs.Values.{value_bit, value_int, value_reference, value_array, bit_passes, int_passes, reference_passes, array_passes, length_map}
use Rattle.sk_prog.specs.declared.value.Value.{Value}
use Rattle.sk_prog.specs.declared.value.Value.TheVariants as value
use Rattle.sk_model.specs.Values.{lengthened}
use Rattle.sk_heap_laws.specs.Values.{value_of, IsLive}
use Rattle.sk_heap_laws.proofs.Parts.{of_bit, of_int, of_null, of_array, live_bit, live_int, live_null, live_array, live_nil}
use Rattle.sk_heap_laws.proofs.Heaps.{map_replicate, live_replicate}
use Rattle.sk_sym_literals.specs.Given.{IsGiven, IsMade, IsLengthened}

pub bit_given : {g : Graph} {r : BoolId} (b : Bool) → HasBool g.nodes r → ((h : Graph) → Grows g h → (e : Env) → bool_value h e r ≡ b) → IsGiven g (value.Bit b) (shape.Bit r)
bit_given {g} {r} b there known = record {
  stands = bit_stands g r there;
  unnamed = λ test. bit_passes test r;
  live = λ h e holds. subst (IsLive holds) (sym (value_bit h e r)) (live_bit holds (bool_value h e r));
  value = λ h more e place. ap (value_of place) (value_bit h e r) ∙ of_bit place (bool_value h e r) ∙ ap (λ b. value.Bit b) (known h more e);
}

pub int_given : {g : Graph} {r : WordId} (z : ℤ) → HasWord g.nodes r → ((h : Graph) → Grows g h → (e : Env) → word_value h e r ≡ z) → IsGiven g (value.Int z) (shape.Int r)
int_given {g} {r} z there known = record {
  stands = int_stands g r there;
  unnamed = λ test. int_passes test r;
  live = λ h e holds. subst (IsLive holds) (sym (value_int h e r)) (live_int holds (word_value h e r));
  value = λ h more e place. ap (value_of place) (value_int h e r) ∙ of_int place (word_value h e r) ∙ ap (λ z. value.Int z) (known h more e);
}

pub null_given : (g : Graph) (a : Targets) → a.slots.items ≡ [] → IsGiven g value.Null (shape.Reference a)
null_given g a none = record {
  stands = reference_stands g a (subst (AllIn g) (sym none) (none_in g)) (λ e. subst (λ ts. length (held_in g e ts) ≤ 1) (sym none) (omega arith));
  unnamed = λ test. reference_passes test a (subst (AllPass test) (sym none) (record { each = All-nil (λ x. IsTrue (test x.0)) }));
  live = λ h e holds. subst (IsLive holds) (sym (look h e)) (live_null holds);
  value = λ h more e place. ap (value_of place) (look h e) ∙ of_null place;
}
  where
    look : (h : Graph) (e : Env) → shape_value h e (shape.Reference a) ≡ seen.Slot None
    look h e = value_reference h e a ∙ ap (λ ts. seen.Slot (held_slot h e ts)) none

pub ruleset single = (Keeps-refl, zero_word)

-- ---- longer arrays

-- the list, and then a shape as often as is wanting to so many
pub record IsLonger (g : Graph) (list : List Shape) (zero : Shape) (count : ℕ) (made : List Shape) : Type 0 where
  pub stand : AllStand g made
  pub named : (test : ℕ → Bool) → AllSlotsPass test list → SlotsPass test zero → AllSlotsPass test made
  pub value : (h : Graph) (e : Env) → shapes_value h e made ≡ shapes_value h e list ++ replicate (count - length list) (shape_value h e zero)

-- a list that is long enough stays
pub long_enough : {g : Graph} {list : List Shape} (zero : Shape) {count : ℕ} → count ≤ length list → AllStand g list → IsLonger g list zero count list
long_enough {g} {list} zero {count} long all = record {
  stand = all;
  named = λ test p q. p;
  value = λ h e.
      let none : 0 ≡ count - length list = omega (arith, long) in
      sym (append-nil (shapes_value h e list)) ∙ ap (λ n. shapes_value h e list ++ replicate n (shape_value h e zero)) none;
}

-- a list with zeros behind it
pub zeros_behind : {d g : Graph} {list zeros : List Shape} {zero : Shape} {n count : ℕ} → AllStand d list → Keeps d g → n ≡ count - length list → IsPadded g [] zero n zeros → IsLonger g list zero count (list ++ zeros)
zeros_behind {d} {g} {list} {zeros} {zero} {n} {count} all keeps wanting is = record {
  stand = record { each = All-append (Stands g) list zeros (AllStand-keeps keeps all).each is.stand.each };
  named = λ test p q. record { each = All-append (SlotsPass test) list zeros p.each (is.named test (record { each = All-nil (SlotsPass test) }) q).each };
  value = λ h e.
      let some : n - 0 ≡ count - length list = omega (arith, wanting) in
      map-append (shape_value h e) list zeros
      ∙ ap (λ l. shapes_value h e list ++ l) (is.value h e ∙ ap (λ k. replicate k (shape_value h e zero)) some);
}

pub longer : {g : Graph} {list made : List Shape} {zero : Shape} {count : ℕ} → IsLonger g list zero count made → IsLengthened g list zero count (shape.Array made)
longer {g} {list} {made} {zero} {count} is = record {
  stands = array_stands g made is.stand;
  named = λ test p q. array_passes test made (is.named test p q);
  live = λ h e holds p q. subst (IsLive holds) (sym (look h e)) (live_array holds (shapes_value h e list ++ replicate (count - length list) (shape_value h e zero))
      (record { each = All-append (IsLive holds) (shapes_value h e list) (replicate (count - length list) (shape_value h e zero)) p.each (live_replicate holds (count - length list) (shape_value h e zero) q).each }));
  value = λ h e place.
      ap (value_of place) (look h e)
      ∙ of_array place (shapes_value h e list ++ replicate (count - length list) (shape_value h e zero))
      ∙ ap (λ l. value.Array l) (map-append (value_of place) (shapes_value h e list) (replicate (count - length list) (shape_value h e zero)) ∙ ap (λ l. map (value_of place) (shapes_value h e list) ++ l) (map_replicate (value_of place) (count - length list) (shape_value h e zero)))
      ∙ ap (λ n. value.Array (map (value_of place) (shapes_value h e list) ++ replicate (count - n) (value_of place (shape_value h e zero)))) (sym (length_map (value_of place) (shapes_value h e list) ∙ length_map (shape_value h e) list));
}
  where
    look : (h : Graph) (e : Env) → shape_value h e (shape.Array made) ≡ seen.Array (shapes_value h e list ++ replicate (count - length list) (shape_value h e zero))
    look h e = value_array h e made ∙ ap (λ l. seen.Array l) (is.value h e)

-- an array of zeros alone
pub zeros_given : {d g : Graph} {z : Value} {zero r : Shape} {count : ℕ} {none : List Shape} → IsGiven d z zero → Keeps d g → none ≡ [] → IsLengthened g none zero count r → IsGiven g (value.Array (replicate count z)) r
zeros_given {d} {g} {z} {zero} {r} {count} is keeps nothing made = record {
  stands = long.stands;
  unnamed = λ test. long.named test (record { each = All-nil (SlotsPass test) }) (is.unnamed test);
  live = λ h e holds. long.live h e holds (live_nil holds) (is.live h e holds);
  value = λ h more e place.
      let all : count - 0 ≡ count = omega arith in
      long.value h e place
      ∙ ap (λ v. lengthened count v []) (is.value h (keeps.later h more) e place)
      ∙ ap (λ n. value.Array (replicate n z)) all;
}
  where
    long : IsLengthened g [] zero count r
    long = subst (λ l. IsLengthened g l zero count r) nothing made

-- what is made of a value that is given
pub made_given : {d g : Graph} {v : Value} {a r : Shape} {f : Value → Value} → IsGiven d v a → Keeps d g → IsMade g a f r → IsGiven g (f v) r
made_given {f = f} is keeps made = record {
  stands = made.stands;
  unnamed = λ test. made.named test (is.unnamed test);
  live = λ h e holds. made.live h e holds (is.live h e holds);
  value = λ h more e place. made.value h more e place ∙ ap f (is.value h (keeps.later h more) e place);
}

pub given_as : {g : Graph} {v w : Value} {r : Shape} → w ≡ v → IsGiven g v r → IsGiven g w r
given_as {g} {r = r} same = subst (λ x. IsGiven g x r) (sym same)

pub made_itself : {g : Graph} (a : Shape) → Stands g a → IsMade g a (λ v. v) a
made_itself a stands = record {
  stands = stands;
  named = λ test p. p;
  live = λ h e holds p. p;
  value = λ h more e place. refl;
}

pub made_as : {g : Graph} {a r : Shape} {f k : Value → Value} → k ≡ f → IsMade g a f r → IsMade g a k r
made_as {g} {a} {r} same = subst (λ x. IsMade g a x r) (sym same)
