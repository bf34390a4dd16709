-- The struct of each algebraic type stands in the plain form.
use Rattle.std.proofs.Common.{◌≡◌, ◌⊎◌, inl, inr, ℕ, zero, suc, List, [], ◌∷◌, ◌++◌, map, Some, refl, sym, ap, subst, ◌∙◌, append_assoc}
use Rattle.std.specs.Prelude.{slice_get}
use Rattle.std.proofs.lemmas.List.{map-append}
use Rattle.sk_base.specs.declared.span.Span.{Span}
use Rattle.sk_tree.specs.declared.token.Token.{Token}
use Rattle.sk_tree.specs.declared.token.Kind.{Kind}
use Rattle.sk_tree.specs.declared.token.Mark.TheVariants as mark
use Rattle.sk_tree.specs.declared.token.Key.TheVariants as key
use Rattle.sk_parser_laws.specs.Readers.{mark_ahead}
use Rattle.sk_adt.specs.declared.algebraic.Algebraic.{Algebraic}
use Rattle.sk_adt.specs.declared.algebraic.Lowered.{Lowered}
use Rattle.sk_adt.specs.declared.form.CaseForm.{CaseForm}
use Rattle.sk_adt.specs.declared.form.Spots.{Spots}
use Rattle.sk_adt.specs.declared.form.Known.{Known}
use Rattle.sk_adt.specs.declared.form.Inside.{Inside}
use Rattle.sk_adt.specs.declared.form.Before.{Before}
use Rattle.sk_adt.specs.declared.form.Before.TheVariants as before
use Rattle.sk_adt.specs.declared.form.TypeWords.{TypeWords}
use Rattle.sk_adt.specs.declared.form.Piece.{Piece}
use Rattle.sk_adt.specs.declared.form.Piece.TheOpen as P
use Rattle.sk_adt.specs.declared.form.Piece.TheViews.{roll-Piece, roll-CaseForm}
use Rattle.sk_adt.specs.declared.form.Piece.TheFolds.{map-Piece, map-CaseForm, ind-Piece, fold-roll-Piece, fold-roll-CaseForm}
use Rattle.sk_adt.specs.Words.{each, types_step, types_of_piece, types_of_case, types_in, known_in, algebraic_of, variant_named}
use Rattle.sk_adt.specs.Branches.{Tokens, keyword, sign, name, tag_field, variants_from, all_at, condition, number_of_variant, Branch, block_of, otherwise, branch, chain, piece_tokens, case_branch, branched_case, branched_piece, branched}
use Rattle.sk_adt.specs.Builds.{Lists, behind_new, set_name, token_built, next_before, next_lists, built_from, built}
use Rattle.sk_adt_laws.specs.Heads.{head, HasHead}
use Rattle.sk_adt_laws.specs.Laws.{TypesBecomeStructs}
use Rattle.sk_adt_laws.proofs.Built.{formed}

-- `struct S { int tag ;`
abbrev begin : Span → Span → Span → List ℕ → Tokens
begin at on opening x = keyword key.Struct at ++ (name x on ++ (sign mark.OpenBrace opening ++ tag_field opening))

-- they hold such a beginning
record Holds (ts : List Token) (x : List ℕ) : Type 0 where
  front : List Token
  at : Span
  on : Span
  opening : Span
  back : List Token
  is : ts ≡ front ++ (begin at on opening x ++ back)

holds_front : (xs ys : List Token) (x : List ℕ) → Holds xs x → Holds (xs ++ ys) x
holds_front xs ys x h = record {
  front = h.front;
  at = h.at;
  on = h.on;
  opening = h.opening;
  back = h.back ++ ys;
  is =
      ap (λ l. l ++ ys) h.is ∙ append_assoc h.front (begin h.at h.on h.opening x ++ h.back) ys
      ∙ ap (λ l. h.front ++ l) (append_assoc (begin h.at h.on h.opening x) h.back ys);
}

holds_back : (xs ys : List Token) (x : List ℕ) → Holds ys x → Holds (xs ++ ys) x
holds_back xs ys x h = record {
  front = xs ++ h.front;
  at = h.at;
  on = h.on;
  opening = h.opening;
  back = h.back;
  is = ap (λ l. xs ++ l) h.is ∙ sym (append_assoc xs h.front (begin h.at h.on h.opening x ++ h.back));
}

holds_same : (xs ys : List Token) (x : List ℕ) → xs ≡ ys → Holds ys x → Holds xs x
holds_same xs ys x e h = subst (λ l. Holds l x) (sym e) h

abbrev Among : TypeWords → List TypeWords → Type 0
Among w [] = ⊥
Among w (v ∷ vs) = (v ≡ w) ⊎ Among w vs

among_parts : (w : TypeWords) (us vs : List TypeWords) → Among w (us ++ vs) → Among w us ⊎ Among w vs
among_parts w [] vs h = inr h
among_parts w (u ∷ us) vs (inl h) = inl (inl h)
among_parts w (u ∷ us) vs (inr h) = elim (among_parts w us vs h) [ inl a ↦ inl (inr a) | inr b ↦ inr b ]

-- Pieces

module _ (known : List Known) where
  abbrev PieceHolds : Piece → Type 0
  PieceHolds p = (inside : List Inside) (w : TypeWords) → Among w (types_of_piece p) → Holds (branched_piece known p inside) w.word.name

  abbrev CaseHolds : CaseForm → Type 0
  CaseHolds c = (inside : List Inside) (w : TypeWords) → Among w (types_of_case c) → Holds ((branched_case known c).block inside) w.word.name

  abbrev APiece : Type 0
  APiece = (p : Piece) × PieceHolds p

  abbrev ACase : Type 0
  ACase = (c : CaseForm) × CaseHolds c

  abbrev cases : List ACase → List CaseForm
  cases qs = map (λ (q : ACase). q.0) qs

  abbrev pieces : List APiece → List Piece
  pieces qs = map (λ (q : APiece). q.0) qs

  body_holds : (qs : List APiece) (inside : List Inside) (w : TypeWords) → Among w (each (map types_of_piece (pieces qs))) → Holds (each (map (λ p. p inside) (map (branched_piece known) (pieces qs)))) w.word.name
  body_holds [] inside w h = absurd h
  body_holds (q ∷ qs) inside w h =
      let here : Tokens = branched_piece known q.0 inside in
      let rest : Tokens = each (map (λ p. p inside) (map (branched_piece known) (pieces qs))) in
      elim (among_parts w (types_of_piece q.0) (each (map types_of_piece (pieces qs))) h) [
        | inl a ↦ holds_front here rest w.word.name (q.1 inside w a)
        | inr b ↦ holds_back here rest w.word.name (body_holds qs inside w b)
      ]

  block_holds : (b : Branch) (inside : List Inside) (x y : List ℕ) (spots : Spots) → Holds (b.block (inside ++ record { on = x; variant = b.head.word.name } ∷ [])) y → Holds (branch known inside x spots b) y
  block_holds b inside x y spots h =
      let block : Tokens = b.block (inside ++ record { on = x; variant = b.head.word.name } ∷ []) in
      holds_back (condition spots x (number_of_variant (variant_named known b.head.word.name))) (block_of b inside x ++ otherwise b.head.close) y
      (holds_front (block_of b inside x) (otherwise b.head.close) y
      (holds_back (sign mark.OpenBrace b.head.«open») (block ++ sign mark.CloseBrace b.head.close) y (holds_front block (sign mark.CloseBrace b.head.close) y h)))

  chain_holds : (qs : List ACase) (inside : List Inside) (x : List ℕ) (last : Span) (spots : Spots) (w : TypeWords) → Among w (each (map types_of_case (cases qs))) → Holds (chain known inside x last spots (map (branched_case known) (cases qs))) w.word.name
  unfolding chain
  chain_holds [] inside x last spots w h = absurd h
  chain_holds (q ∷ qs) inside x last spots w h =
      let b : Branch = branched_case known q.0 in
      let here : Tokens = branch known inside x spots b in
      let more : Tokens = chain known inside x last (all_at b.head.close) (map (branched_case known) (cases qs)) in
      let closing : Tokens = sign mark.CloseBrace last in
      elim (among_parts w (types_of_case q.0) (each (map types_of_case (cases qs))) h) [
        | inl a ↦ holds_front here (more ++ closing) w.word.name (block_holds b inside x w.word.name spots (q.1 (inside ++ record { on = x; variant = b.head.word.name } ∷ []) w a))
        | inr c ↦ holds_back here (more ++ closing) w.word.name (holds_front more closing w.word.name (chain_holds qs inside x last (all_at b.head.close) w c))
      ]

  abbrev piece_parts : P.Piece-F APiece ACase → P.Piece-F Piece CaseForm
  piece_parts y = map-Piece APiece ACase Piece CaseForm (λ q. q.0) (λ q. q.0) y

  abbrev case_parts : P.CaseForm-F APiece ACase → P.CaseForm-F Piece CaseForm
  case_parts y = map-CaseForm APiece ACase Piece CaseForm (λ q. q.0) (λ q. q.0) y

  piece_layer : (y : P.Piece-F APiece ACase) (inside : List Inside) (w : TypeWords) → Among w (types_step (map-Piece Piece CaseForm (List TypeWords) (List TypeWords) types_of_piece types_of_case (piece_parts y))) → Holds (piece_tokens known (map-Piece Piece CaseForm (List Inside → Tokens) Branch (branched_piece known) (branched_case known) (piece_parts y)) inside) w.word.name
  piece_layer (P.Type t) inside w (inl h) = record {
    front = [];
    at = t.at;
    on = t.word.span;
    opening = t.«open»;
    back = variants_from 0 t.variants ++ sign mark.CloseBrace t.close;
    is = ap (λ (v : TypeWords). begin t.at t.word.span t.«open» v.word.name ++ (variants_from 0 t.variants ++ sign mark.CloseBrace t.close)) h;
  }
  piece_layer (P.Type t) inside w (inr h) = absurd h
  piece_layer (P.Switch head qs) inside w h = chain_holds qs inside head.on.name _ _ w h
  piece_layer (P.Member on dot field) inside w h = absurd h
  piece_layer (P.Behind dot field) inside w h = absurd h
  piece_layer (P.Plain t) inside w h = absurd h

  piece_holds : (p : Piece) → PieceHolds p
  piece_holds =
      ind-Piece PieceHolds CaseHolds
      (λ x y is. subst (λ z. PieceHolds (roll-Piece z)) is (λ inside w h.
      subst (λ (f : List Inside → Tokens). Holds (f inside) w.word.name) (sym (fold-roll-Piece (List Inside → Tokens) Branch (piece_tokens known) (case_branch known) (piece_parts y)))
      (piece_layer y inside w (subst (Among w) (fold-roll-Piece (List TypeWords) (List TypeWords) types_step (λ c. each c.body) (piece_parts y)) h))))
      (λ x y is. subst (λ z. CaseHolds (roll-CaseForm z)) is (λ inside w h.
      subst (λ (b : Branch). Holds (b.block inside) w.word.name) (sym (fold-roll-CaseForm (List Inside → Tokens) Branch (piece_tokens known) (case_branch known) (case_parts y)))
      (body_holds y.body inside w (subst (Among w) (fold-roll-CaseForm (List TypeWords) (List TypeWords) types_step (λ c. each c.body) (case_parts y)) h))))

  branched_holds : (ps : List Piece) (inside : List Inside) (w : TypeWords) → Among w (types_in ps) → Holds (branched known inside ps) w.word.name
  branched_holds [] inside w h = absurd h
  branched_holds (p ∷ ps) inside w h =
      elim (among_parts w (types_of_piece p) (types_in ps) h) [
        | inl a ↦ holds_front (branched_piece known p inside) (branched known inside ps) w.word.name (piece_holds p inside w a)
        | inr b ↦ holds_back (branched_piece known p inside) (branched known inside ps) w.word.name (branched_holds ps inside w b)
      ]

  -- what is built leaves such a beginning as it is
  begin_stays : (b : Before) (lists : Lists) (at on opening : Span) (x : List ℕ) (back : List Token) → (rest : List Token) × (built_from known b lists (begin at on opening x ++ back) ≡ begin at on opening x ++ rest)
  unfolding built_from token_built next_before next_lists behind_new set_name mark_ahead
  begin_stays b lists at on opening x back = (_, refl)

  built_begin : (front : List Token) (b : Before) (lists : Lists) (at on opening : Span) (x : List ℕ) (back : List Token) → Holds (built_from known b lists (front ++ (begin at on opening x ++ back))) x
  unfolding built_from
  built_begin [] b lists at on opening x back =
      let r = begin_stays b lists at on opening x back in
      record { front = []; at = at; on = on; opening = opening; back = r.0; is = r.1 }
  built_begin (t ∷ front) b lists at on opening x back =
      let after : List Token = front ++ (begin at on opening x ++ back) in
      holds_back (token_built known b lists t after) (built_from known (next_before known b t after) (next_lists b lists t) after) x (built_begin front (next_before known b t after) (next_lists b lists t) at on opening x back)

  built_holds : (ts : List Token) (x : List ℕ) → Holds ts x → Holds (built known ts) x
  built_holds ts x h = subst (λ l. Holds (built known l) x) (sym h.is) (built_begin h.front before.Other [] h.at h.on h.opening x h.back)

-- kinds alone
abbrev kinds : List Token → List Kind
kinds ts = map (λ (t : Token). t.kind) ts

has_head : (ts : List Token) (x : List ℕ) → Holds ts x → HasHead ts x
has_head ts x h = record {
  front = kinds h.front;
  back = kinds h.back;
  is = ap kinds h.is ∙ map-append (λ (t : Token). t.kind) h.front (begin h.at h.on h.opening x ++ h.back);
}

among_types : (types : List TypeWords) (n : ℕ) (a : Algebraic) → slice_get (map algebraic_of types) n ≡ Some a → (w : TypeWords) × Among w types × (a.name ≡ w.word.name)
among_types [] n a e = absurd (cc)
among_types (w ∷ ws) zero a e = let same : algebraic_of w ≡ a = cc in (w, inl refl, ap (λ (b : Algebraic). b.name) (sym same))
among_types (w ∷ ws) (suc n) a e = let r = among_types ws n a e in (r.0, inr r.1, r.2)

pub structs : TypesBecomeStructs
structs ts form e n a there =
    let f = formed ts form e in
    let types : List TypeWords = types_in f.pieces in
    let r = among_types types n a (ap (λ (l : Lowered). slice_get l.types n) (sym f.made) ∙ there) in
    let held = built_holds (known_in types) (branched (known_in types) [] f.pieces) r.0.word.name (branched_holds (known_in types) f.pieces [] r.0 r.1) in
    has_head form.tokens a.name (subst (Holds form.tokens) (sym r.2) (subst (λ (l : Lowered). Holds l.tokens r.0.word.name) (sym f.made) held))
