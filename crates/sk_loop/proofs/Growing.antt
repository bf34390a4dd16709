-- Lists of pairs that grow.
use Rattle.std.proofs.Common.{◌≡◌, ℕ, ◌+◌, ◌-◌, ◌<◌, ◌≤◌, inl, inr, ◌++◌, List, [], ◌∷◌, Option, Some, length, get_or, take, slice_get, refl, sym, ◌∙◌, ap, subst, arith}
use Rattle.std.proofs.lemmas.List.{append_assoc, append-nil, length-append, length-map, map-append, take_more, take_all, take-append-le, get_or-append_right}
use Rattle.std.proofs.lemmas.Option.{slice_get_within, get_or_from_slice_get}
use Rattle.sk_base.specs.declared.bounds.Bounds.{Bounds}
use Rattle.sk_base.specs.declared.bounds.Budget.{Budget}
use Rattle.sk_model.specs.declared.expanded.Choice.{Choice}
use Rattle.sk_model.specs.declared.expanded.Expanded.{Expanded}
use Rattle.sk_model.specs.declared.expanded.Input.{Input}
use Rattle.sk_model.specs.declared.expanded.Pair.{Pair}
use Rattle.sk_oblig_queries.specs.Queries.{IsBad, IsWanted}
use Rattle.sk_loop_laws.specs.Honest.{Grown, IsRound, inputs_of}
use Rattle.sk_loop_laws.specs.Shown.{HasRoom}
use Rattle.sk_loop_laws.proofs.Lists.{get_front, take_front}
use Rattle.sk_loop.specs.Rounds.{HasKept, Keeps}

pub inputs_next : (pairs : List Pair) (i : ℕ) (d : Pair) (made longer : List Input) (input : Input) → i < length pairs → input ≡ (get_or pairs i d).input → made ≡ inputs_of (take i pairs) → longer ≡ made ++ input ∷ [] → longer ≡ inputs_of (take (i + 1) pairs)
inputs_next pairs i d made longer input h is so far =
    far ∙ ap (λ (x : List Input). x ++ input ∷ []) so ∙ ap (λ (x : Input). inputs_of (take i pairs) ++ x ∷ []) is
    ∙ sym (ap inputs_of (take_more pairs i d h) ∙ map-append (λ (p : Pair). p.input) (take i pairs) (get_or pairs i d ∷ []))

pub ruleset input_steps = (inputs_next)

pub inputs_push : (pairs : List Pair) (p : Pair) → inputs_of (pairs ++ p ∷ []) ≡ inputs_of pairs ++ p.input ∷ []
inputs_push pairs p = map-append (λ (q : Pair). q.input) pairs (p ∷ [])

pub inputs_many : (pairs : List Pair) → length (inputs_of pairs) ≡ length pairs
inputs_many pairs = length-map pairs (λ (p : Pair). p.input)

pub cut_next : (mid new whole : List Pair) (last : Pair) (len : ℕ) → len < length mid → mid ≡ new ++ last ∷ [] → take len mid ≡ whole → take len new ≡ whole
cut_next mid new whole last len h is so =
    let long = ap length is ∙ length-append new (last ∷ []) in
    sym (ap (take len) is ∙ take-append-le len new (last ∷ []) (omega (arith, h, long))) ∙ so

pub ruleset cuts = (cut_next)

pub keeps_same : (old new : List Pair) → new ≡ old → Keeps old new
keeps_same old new is = record { added = []; behind = is ∙ sym (append-nil old) }

pub keeps_push : (old new : List Pair) (p : Pair) → new ≡ old ++ p ∷ [] → Keeps old new
keeps_push old new p is = record { added = p ∷ []; behind = is }

pub keeps_on : (old mid new : List Pair) → Keeps old mid → Keeps mid new → Keeps old new
keeps_on old mid new a b = record { added = a.added ++ b.added; behind = b.behind ∙ ap (λ (x : List Pair). x ++ b.added) a.behind ∙ append_assoc old a.added b.added }

pub cut_back : (old mid new : List Pair) (len : ℕ) → Keeps old mid → len ≡ length old → new ≡ take len mid → new ≡ old
cut_back old mid new len k many is =
    is ∙ ap (λ (n : ℕ). take n mid) many ∙ ap (take (length old)) k.behind ∙ take-append-le (length old) old k.added (omega arith) ∙ take_all (length old) old (omega arith)

pub kept_len : (old mid : List Pair) → Keeps old mid → length old ≤ length mid
kept_len old mid k = omega (arith, ap length k.behind, length-append old k.added)

pub kept_room : (budget : Budget) (old new : List Pair) → HasRoom budget old → length new ≡ length old + 1 → HasKept budget.rounds new
kept_room budget old new room long = elim room [ inl none ↦ inl none | inr less ↦ inr (omega (arith, less, long)) ]

pub is_round : (e : Expanded) (bounds : Bounds) (limit : Option ℕ) (earlier : List Input) (choice : Choice) (input : Input) → IsWanted e bounds earlier limit choice → IsBad e bounds choice limit input → IsRound e bounds limit earlier (record { choice = choice; input = input })
is_round e bounds limit earlier choice input w b = record { wanted = w; bad = b }

pub grown_same : (e : Expanded) (bounds : Bounds) (limit : Option ℕ) (old : List Pair) → Grown e bounds limit old old
grown_same e bounds limit old = record {
  added = [];
  behind = sym (append-nil old);
  rounds = λ i p far at. absurd (let near = slice_get_within old i p at in omega (arith, far, near));
}

pub grown_push : (e : Expanded) (bounds : Bounds) (limit : Option ℕ) (old new : List Pair) (p : Pair) → IsRound e bounds limit (inputs_of old) p → new ≡ old ++ p ∷ [] → Grown e bounds limit old new
grown_push e bounds limit old new p round is = record {
  added = p ∷ [];
  behind = is;
  rounds = λ i q far at.
      let near : i < length new = slice_get_within new i q at in
      let long : length new ≡ length old + 1 = ap length is ∙ length-append old (p ∷ []) in
      let place : i ≡ length old = omega (arith, far, near, long) in
      let none : i - length old ≡ 0 = omega (arith, place) in
      let read : get_or new i p ≡ p = ap (λ (x : List Pair). get_or x i p) is ∙ get_or-append_right old (p ∷ []) (length old) i p refl far ∙ ap (λ (k : ℕ). get_or (p ∷ []) k p) none in
      let same : p ≡ q = sym read ∙ get_or_from_slice_get new i q p at in
      let front : old ≡ take i new = sym (ap (take i) is ∙ ap (λ (k : ℕ). take k (old ++ p ∷ [])) place ∙ take-append-le (length old) old (p ∷ []) (omega arith) ∙ take_all (length old) old (omega arith)) in
      subst (λ (x : List Pair). IsRound e bounds limit (inputs_of x) q) front (subst (IsRound e bounds limit (inputs_of old)) same round);
}

pub grown_on : (e : Expanded) (bounds : Bounds) (limit : Option ℕ) (old mid new : List Pair) → Grown e bounds limit old mid → Grown e bounds limit mid new → Grown e bounds limit old new
grown_on e bounds limit old mid new a b = record {
  added = a.added ++ b.added;
  behind = b.behind ∙ ap (λ (x : List Pair). x ++ b.added) a.behind ∙ append_assoc old a.added b.added;
  rounds = λ i p far at. elim (Rattle.std.proofs.lemmas.Bool.cases_lt i (length mid)) [
    | inl near ↦ (
        let at' : slice_get mid i ≡ Some p = sym (ap (λ (x : List Pair). slice_get x i) b.behind ∙ get_front mid b.added i near) ∙ at in
        let front : take i mid ≡ take i new = sym (ap (take i) b.behind ∙ take_front mid b.added i near) in
        subst (λ (x : List Pair). IsRound e bounds limit (inputs_of x) p) front (a.rounds i p far at'))
    | inr late ↦ b.rounds i p (omega (arith, late)) at
  ];
}
