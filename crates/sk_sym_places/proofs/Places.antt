-- Places that targets may name, and what is stored at them.
use Rattle.std.proofs.Common.{◌≡◌, ℕ, suc, ◌+◌, Bool, true, false, refl, sym, ap, subst, ◌∙◌, ◌&&◌, ◌||◌, Result, arith, ◌≤◌}
use Rattle.std.specs.Prelude.{OnOk, not, if◌then◌else◌, ⊤, List}
use Rattle.sk_base.specs.declared.span.Span.{Span}
use Rattle.sk_dag.specs.declared.env.Env.{Env}
use Rattle.sk_dag.specs.declared.node.BoolId.{BoolId}
use Rattle.sk_dag.specs.declared.shape.Shape.{Shape}
use Rattle.sk_dag.specs.Graph.{Graph, HasBool, BoolSort}
use Rattle.sk_dag.specs.Eval.{bool_value, Keeps}
use Rattle.sk_dag.proofs.EvalLemmas.{Keeps-trans}
use Rattle.sk_heap.specs.declared.slot.Slot.{Slot}
use Rattle.sk_prog.specs.declared.value.Value.{Value}
use Rattle.sk_model.specs.Step.{State, Step, Goes, Fails, Skips}
use Rattle.sk_model.specs.Heap as model
use Rattle.sk_heap_laws.specs.Heaps.{StructsGrow, HeapGrows}
use Rattle.sk_heap_laws.proofs.Grown.{StructsGrow-refl, StructsGrow-trans, HeapGrows-trans, HoldAlike-trans, alike_grows}
use Rattle.sk_sym_state.specs.declared.branch.Side.{Side}
use Rattle.sk_sym_state.specs.declared.setting.Setting.{Setting}
use Rattle.sk_sym_state.specs.declared.state.SymState.{SymState}
use Rattle.sk_sym_state.specs.Seen.{IsWorth}
use Rattle.sk_sym_state.specs.Shows.{AreFrontOf, Shows, Sees, IsHere, Comes, Carries, AreAlong, Stays}
use Rattle.sk_sym_state.specs.Branching.{IsForked, AreTurned, AreJoined}
use Rattle.sk_sym_state.specs.Meaning.{IsLater, Moves}
use Rattle.sk_sym_state.proofs.Worth.{IsWorth-grown}
use Rattle.sk_sym_state.proofs.Carrying.{Carries-trans, Carries-along, failed_over, skipped_over, shows_over, here_over, some_over, alike_along, front_grown, later_keeps}
use Rattle.sk_sym_stores.specs.declared.location.Location.{Location}
use Rattle.sk_sym_places.specs.declared.place.Place.{Place}
use Rattle.sk_sym_places.specs.declared.place.Place.TheVariants.{One, Either}
use Rattle.sk_sym_places.specs.declared.place.Place.TheOpen as F
use Rattle.sk_sym_places.specs.declared.place.Place.TheFolds.{fold-Place, every-Place}
use Rattle.sk_sym_stores.specs.Locations.{LocationIs, LocationStands}
use Rattle.sk_sym_stores.specs.Stores.{Stores}
use Rattle.sk_sym_places.specs.Places.{location_step, location_in, PartStands, PlaceStands, IsPut, Puts}
use Rattle.sk_sym_stores.proofs.Locating.{LocationStands-keeps, LocationIs-grown}
use Rattle.sk_sym_places.proofs.Layers.{fold_one, fold_either, every_one, every_either, one_every, either_every, either_parts, every_more}

abbrev count_step : F.Place-F ℕ → ℕ
count_step (F.One l) = 0
count_step (F.Either cond first second) = suc (first + second)

-- how many bits it goes by: what a recursion on it takes less of
abbrev pub bits_in : Place → ℕ
bits_in = fold-Place ℕ count_step

pub either_as : {a b c d : Place} (cond : BoolId) → a ≡ c → b ≡ d → Either cond a b ≡ Either cond c d
either_as {b = b} {c = c} cond first second = ap (λ p. Either cond p b) first ∙ ap (λ p. Either cond c p) second

pub bits_either : (p first second : Place) (cond : BoolId) → p ≡ Either cond first second → bits_in p ≡ suc (bits_in first + bits_in second)
bits_either p first second cond is = ap bits_in is ∙ fold_either ℕ count_step cond first second

-- ---- what stands

part_keeps : {a b : Graph} → Keeps a b → (x : F.Place-F Place) → PartStands a x → PartStands b x
part_keeps k (F.One l) h = LocationStands-keeps k h
part_keeps k (F.Either cond first second) h = k.sorts _ BoolSort h

pub PlaceStands-keeps : {a b : Graph} {p : Place} → Keeps a b → PlaceStands a p → PlaceStands b p
PlaceStands-keeps {a} {b} {p} k h = record { parts = every_more (PartStands a) (PartStands b) (part_keeps k) p h.parts }

pub one_stands : {d : Graph} {l : Location} → LocationStands d l → PlaceStands d (One l)
one_stands {d} {l} h = record { parts = every_one (PartStands d) l h }

pub either_stands : {d : Graph} {cond : BoolId} {first second : Place} → HasBool d.nodes cond → PlaceStands d first → PlaceStands d second → PlaceStands d (Either cond first second)
either_stands {d} {cond} {first} {second} c x y = record { parts = every_either (PartStands d) cond first second c x.parts y.parts }

pub location_there : {d : Graph} {p : Place} {l : Location} → p ≡ One l → PlaceStands d p → LocationStands d l
location_there {d} {p} {l} is h = one_every (PartStands d) l (subst (every-Place (PartStands d)) is h.parts)

pub parts_there : {d : Graph} {p first second : Place} {cond : BoolId} → p ≡ Either cond first second → PlaceStands d p → HasBool d.nodes cond × (PlaceStands d first × PlaceStands d second)
parts_there {d} {p} {first} {second} {cond} is h =
    let all = subst (every-Place (PartStands d)) is h.parts in
    let both = either_parts (PartStands d) cond first second all in
    (either_every (PartStands d) cond first second all, (record { parts = both.0 }, record { parts = both.1 }))

-- ---- by the bit

pub location_one : (g : Graph) (e : Env) (l : Location) → location_in g e (One l) ≡ l
location_one g e l = fold_one Location (location_step g e) l

pub location_first : (g : Graph) (e : Env) (cond : BoolId) (first second : Place) → bool_value g e cond ≡ true → location_in g e (Either cond first second) ≡ location_in g e first
location_first g e cond first second c = fold_either Location (location_step g e) cond first second ∙ ap (λ b. if b then location_in g e first else location_in g e second) c

pub location_second : (g : Graph) (e : Env) (cond : BoolId) (first second : Place) → bool_value g e cond ≡ false → location_in g e (Either cond first second) ≡ location_in g e second
location_second g e cond first second c = fold_either Location (location_step g e) cond first second ∙ ap (λ b. if b then location_in g e first else location_in g e second) c

put_grown : {g : Graph} {e : Env} {a b : List Slot} {r : Shape} {q : model.Location × Value} (p : Place) → HeapGrows g e a b → IsPut a p r g e q → IsPut b p r g e q
put_grown p grown h = (LocationIs-grown grown h.0, IsWorth-grown grown h.1)

put_as : (g : Graph) (e : Env) (heap : List Slot) (p : Place) (l : Location) (r : Shape) (q : model.Location × Value) → location_in g e p ≡ l → IsPut heap p r g e q → LocationIs g e heap l q.0 × IsWorth g e heap r q.1
put_as g e heap p l r q is h = (subst (λ l. LocationIs g e heap l q.0) is h.0, h.1)

-- ---- both ways

and_false : (a b : Bool) → a ≡ false → (a && b) ≡ false
and_false a b h = rw h refl

or_false : (b : Bool) → (b || false) ≡ b
or_false true = refl
or_false false = refl

module _ {x : Setting} {d1 d2 d3 d4 d5 : Graph} {s1 s2 s3 s4 s5 s6 : SymState} {cond : BoolId} {waits gone : Side} {span : Span} {a b : Place} {r : Shape}
    (forked : IsForked x d1 d2 s1 s2 cond waits) (one : Puts x d2 d3 s2 s3 span a r) (turned : AreTurned s3 s4 waits gone) (two : Puts x d3 d4 s4 s5 span b r) (joined : AreJoined x d4 d5 s5 s6 cond gone) where
  ma : Moves x d2 d3 s2 s3
  ma = one.does.moves

  mb : Moves x d3 d4 s4 s5
  mb = two.does.moves

  structs : StructsGrow s1.heap s6.heap
  structs = StructsGrow-trans (along forked.along) (StructsGrow-trans ma.structs (StructsGrow-trans (along turned.along) (StructsGrow-trans mb.structs (along joined.along))))
    where
      along : {a b : SymState} → AreAlong a b → StructsGrow a.heap b.heap
      along {a} h = subst (StructsGrow a.heap) (sym h.heap) (StructsGrow-refl a.heap)

  module _ {g : Graph} {e : Env} (l : IsLater x d5 g e) where
    l4 : IsLater x d4 g e
    l4 = later_keeps joined.keeps l

    l3 : IsLater x d3 g e
    l3 = later_keeps mb.keeps l4

    l2 : IsLater x d2 g e
    l2 = later_keeps ma.keeps l3

    path4 : bool_value g e s4.path ≡ (bool_value g e s1.path && not (bool_value g e cond))
    path4 = ap (bool_value g e) turned.path ∙ forked.there g e l2.grows

    path6 : bool_value g e s6.path ≡ (bool_value g e s3.path || bool_value g e s5.path)
    path6 = joined.path g e l.grows ∙ ap (λ p. bool_value g e p || bool_value g e s5.path) turned.old_path

    nowhere : bool_value g e s1.path ≡ false → Stays g e s1 s6
    nowhere p =
        let first = ma.stays g e l3 (forked.here g e l2.grows ∙ and_false _ _ p) in
        let second = mb.stays g e l4 (path4 ∙ and_false _ _ p) in
        record {
          path = path6 ∙ rw (first.path, second.path) refl;
          rest = Carries-trans (Carries-along forked.along) (Carries-trans first.rest (Carries-trans (Carries-along turned.along) (Carries-trans second.rest (Carries-along joined.along))));
        }

    -- the first way is gone, and the second stays
    module _ (p : bool_value g e s1.path ≡ true) (c : bool_value g e cond ≡ true) where
      second_stays : Stays g e s4 s5
      second_stays = mb.stays g e l4 (path4 ∙ rw (p, c) refl)

      first_rest : Carries g e s3 s6
      first_rest = Carries-trans (Carries-along turned.along) (Carries-trans second_stays.rest (Carries-along joined.along))

      first_end : bool_value g e s6.path ≡ bool_value g e s3.path
      first_end = path6 ∙ ap (λ b. bool_value g e s3.path || b) second_stays.path ∙ or_false (bool_value g e s3.path)

      first_shows : {at : State} → Shows g e s1 at → Shows g e s2 at
      first_shows {at} h = shows_over (Carries-along forked.along) (forked.here g e l2.grows ∙ rw (p, c) refl) (omega (arith, forked.cursor)) (forked.slots g e at.slots l2.grows h.slots) h

      first_up : bool_value g e s3.path ≡ true → s3.cursor ≤ s6.cursor
      first_up here = omega (arith, turned.old_cursor, joined.cursor.first g e l.grows (ap (bool_value g e) turned.old_path ∙ here))

      first_on : {at : State} → Shows g e s3 at → Shows g e s6 at
      first_on {at} h =
          let end : bool_value g e gone.path ≡ true = ap (bool_value g e) turned.old_path ∙ h.path in
          let front = front_grown g e (alike_grows g e (HoldAlike-trans g e (alike_along g e turned.along) second_stays.rest.holds)) h.slots in
          let front' : AreFrontOf g e s5.heap gone.slots at.slots = subst (λ list. AreFrontOf g e s5.heap list at.slots) (sym turned.old_slots) front in
          shows_over first_rest (first_end ∙ h.path) (first_up h.path) (joined.first g e at.slots l.grows c end front') h

      first_sees : (t : Step (Unit {0})) → Sees g e s3 (λ u. ⊤) t → Sees g e s6 (λ u. ⊤) t
      first_sees (Goes v at) h = record { shows = first_on h.shows; is = h.is }
      first_sees (Fails span) h = failed_over first_rest (first_end ∙ h.path) h
      first_sees (Skips span) h = skipped_over first_rest (first_end ∙ h.path) h

    -- the first way stays, and the second is gone
    module _ (p : bool_value g e s1.path ≡ true) (c : bool_value g e cond ≡ false) where
      first_stays : Stays g e s2 s3
      first_stays = ma.stays g e l3 (forked.here g e l2.grows ∙ rw (p, c) refl)

      before : Carries g e s1 s4
      before = Carries-trans (Carries-along forked.along) (Carries-trans first_stays.rest (Carries-along turned.along))

      second_end : bool_value g e s6.path ≡ bool_value g e s5.path
      second_end = path6 ∙ ap (λ b. b || bool_value g e s5.path) first_stays.path

      second_from : s1.cursor ≤ s4.cursor
      second_from = omega (arith, turned.cursor, forked.other_cursor)

      second_up : bool_value g e s5.path ≡ true → s5.cursor ≤ s6.cursor
      second_up here = joined.cursor.second g e l.grows here

      second_shows : {at : State} → Shows g e s1 at → Shows g e s4 at
      second_shows {at} h =
          let here : AreFrontOf g e s2.heap waits.slots at.slots = forked.others g e at.slots l2.grows h.slots in
          let front = front_grown g e (alike_grows g e (HoldAlike-trans g e first_stays.rest.holds (alike_along g e turned.along))) here in
          shows_over before (path4 ∙ rw (p, c) refl) second_from (subst (λ list. AreFrontOf g e s4.heap list at.slots) (sym turned.slots) front) h

      second_sees : (t : Step (Unit {0})) → Sees g e s5 (λ u. ⊤) t → Sees g e s6 (λ u. ⊤) t
      second_sees (Goes v at) h = record { shows = shows_over (Carries-along joined.along) (second_end ∙ h.shows.path) (second_up h.shows.path) (joined.second g e at.slots l.grows c h.shows.path h.shows.slots) h.shows; is = h.is }
      second_sees (Fails span) h = failed_over (Carries-along joined.along) (second_end ∙ h.path) h
      second_sees (Skips span) h = skipped_over (Carries-along joined.along) (second_end ∙ h.path) h

    comes : IsHere g e s1 → Comes g e s1 s6
    comes h = by (bool_value g e cond) refl
      where
        by : (c : Bool) → bool_value g e cond ≡ c → Comes g e s1 s6
        by true c =
            let p = h.path in
            let first = ma.comes g e l3 (here_over (Carries-along forked.along) (forked.here g e l2.grows ∙ rw (p, c) refl) (omega (arith, forked.cursor)) h) in
            record {
              grown = HeapGrows-trans g e (alike_grows g e (alike_along g e forked.along)) (HeapGrows-trans g e first.grown (alike_grows g e (first_rest p c).holds));
              is = some_over (first_rest p c) (first_end p c) (first_up p c) first.is;
            }
        by false c =
            let p = h.path in
            let second = mb.comes g e l4 (here_over (before p c) (path4 ∙ rw (p, c) refl) (second_from p c) h) in
            record {
              grown = HeapGrows-trans g e (alike_grows g e (before p c).holds) (HeapGrows-trans g e second.grown (alike_grows g e (alike_along g e joined.along)));
              is = some_over (Carries-along joined.along) (second_end p c) (second_up p c) second.is;
            }

    either_sees : (q : model.Location × Value) (at : State) → IsPut s1.heap (Either cond a b) r g e q → Shows g e s1 at → (c : Bool) → bool_value g e cond ≡ c → Sees g e s6 (λ (u : Unit {0}). ⊤) (model.store span q.0 q.1 at)
    either_sees q at is shows true c = first_sees shows.path c (model.store span q.0 q.1 at) (one.does.runs g e q at l3 (put_grown a (alike_grows g e (alike_along g e forked.along)) (put_as g e s1.heap (Either cond a b) (location_in g e a) r q (location_first g e cond a b c) is)) (first_shows shows.path c shows))
    either_sees q at is shows false c = second_sees shows.path c (model.store span q.0 q.1 at) (two.does.runs g e q at l4 (put_grown b (alike_grows g e (before shows.path c).holds) (put_as g e s1.heap (Either cond a b) (location_in g e b) r q (location_second g e cond a b c) is)) (second_shows shows.path c shows))

  pub either_puts : Puts x d1 d5 s1 s6 span (Either cond a b) r
  either_puts = record {
    does = record {
      moves = record {
        keeps = Keeps-trans forked.keeps (Keeps-trans ma.keeps (Keeps-trans mb.keeps joined.keeps));
        stands = joined.stands;
        structs = structs;
        comes = λ g e l h. comes l h;
        stays = λ g e l p. nowhere l p;
      };
      runs = λ g e q at l is shows. either_sees l q at is shows (bool_value g e cond) refl;
    };
  }

-- a location, and what is stored there
pub one_puts : {x : Setting} {d0 d1 : Graph} {s0 s1 : SymState} {span : Span} {p : Place} {l : Location} {r : Shape} → p ≡ One l → Stores x d0 d1 s0 s1 span l r → Puts x d0 d1 s0 s1 span p r
one_puts {x} {d0} {d1} {s0} {s1} {span} {p} {l} {r} is h = record {
  does = record {
    moves = h.does.moves;
    runs = λ g e q at later given shows. h.does.runs g e q at later (put_as g e s0.heap p l r q (ap (location_in g e) is ∙ location_one g e l) given) shows;
  };
}

-- the same place in other words
pub puts_as : {E A : Type 0} {p q : Place} (x : Setting) (d0 d1 : Graph) (s0 s1 : SymState) (span : Span) (r : Shape) (result : Result A E) → p ≡ q → OnOk result (Puts x d0 d1 s0 s1 span q r) → OnOk result (Puts x d0 d1 s0 s1 span p r)
puts_as x d0 d1 s0 s1 span r result is h = subst (λ p. OnOk result (Puts x d0 d1 s0 s1 span p r)) (sym is) h
