-- What takes the place of the pieces of a text: the kinds of its tokens, and how many they are.
use Rattle.std.proofs.Common.{◌≡◌, ℕ, zero, suc, ◌+◌, ◌*◌, ◌<◌, ◌≤◌, Bool, true, List, [], ◌∷◌, ◌++◌, length, map, Option, Some, None, refl, sym, ap, subst, ◌∙◌, arith, length-append}
use Rattle.std.specs.Prelude.{Ok, Err, option_and_then, option_map}
use Rattle.std.specs.List.{list_all}
use Rattle.std.proofs.lemmas.List.Folds.{list_all-append}
use Rattle.sk_base.specs.declared.span.Span.{Span}
use Rattle.sk_tree.specs.declared.token.Token.{Token}
use Rattle.sk_tree.specs.declared.token.Kind.{Kind}
use Rattle.sk_tree.specs.declared.token.Kind.TheVariants as kind
use Rattle.sk_tree.specs.declared.token.Mark.TheVariants as mark
use Rattle.sk_tree.specs.declared.token.Key.TheVariants as key
use Rattle.sk_types_laws.proofs.Ats.{both}
use Rattle.sk_types_rules.specs.Scope.{place_of}
use Rattle.sk_parser_laws.specs.Readers.{mark_at}
use Rattle.sk_parser_laws.proofs.Loops.{Every, every_some, every_bind, every_more, every_repeated}
use Rattle.sk_adt.specs.declared.form.Word.{Word}
use Rattle.sk_adt.specs.declared.form.FieldForm.{FieldForm}
use Rattle.sk_adt.specs.declared.form.VariantForm.{VariantForm}
use Rattle.sk_adt.specs.declared.form.TypeForm.{TypeForm}
use Rattle.sk_adt.specs.declared.form.CaseHead.{CaseHead}
use Rattle.sk_adt.specs.declared.form.CaseForm.{CaseForm}
use Rattle.sk_adt.specs.declared.form.SwitchHead.{SwitchHead}
use Rattle.sk_adt.specs.declared.form.Spots.{Spots}
use Rattle.sk_adt.specs.declared.form.Known.{Known}
use Rattle.sk_adt.specs.declared.form.Inside.{Inside}
use Rattle.sk_adt.specs.declared.form.TypeWords.{TypeWords}
use Rattle.sk_adt.specs.declared.form.Piece.{Piece}
use Rattle.sk_adt.specs.declared.form.Piece.TheVariants as piece
use Rattle.sk_adt.specs.declared.form.Piece.TheOpen as P
use Rattle.sk_adt.specs.declared.form.Piece.TheFolds.{fold-roll-Piece, fold-roll-CaseForm}
use Rattle.sk_adt.specs.Words.{each, types_step, types_of_piece, types_of_case, types_in, variant_named}
use Rattle.sk_adt.specs.Forms.{at_close, name_at, type_at, case_at, head_at, selected_at, Found, with_case, next_case, cases_at, switched, switch_at, typed_at, or_outside, member, behind, plain_kind, plain_at, ok_plain, piece_kind, piece_at, with_piece, pieces_from, pieces_of}
use Rattle.sk_adt.specs.Branches.{Tokens, made_name, field_tokens, fields_from, variants_from, struct_of, made_field, or_name, member_name, innermost, all_at, number_of_variant, condition, refusal, Branch, block_of, otherwise, branch, chain, switch_tokens, member_tokens, piece_tokens, case_branch, branched_case, branched_piece, branched}
use Rattle.sk_adt_laws.specs.Plain.{is_plain}
use Rattle.sk_adt_laws.proofs.Read.{passes, passes_append, Makes, Chain, chain_push, WordPasses, Old, old_here, old_rest, mark_rest, name_rest, FieldsFit, VariantsFit, TypeFits, type_fits, case_rest, head_rest, selected_rest}

-- The parts of folds over pieces

module _ (known : List Known) where
  pub type_is : (t : TypeForm) → branched_piece known (piece.Type t) ≡ piece_tokens known (P.Type t)
  type_is t = ap (branched_piece known) (sym (piece.rolls-Type t)) ∙ fold-roll-Piece (List Inside → Tokens) Branch (piece_tokens known) (case_branch known) (P.Type t)

  pub switch_is : (head : SwitchHead) (cases : List CaseForm) → branched_piece known (piece.Switch head cases) ≡ piece_tokens known (P.Switch head (map (branched_case known) cases))
  switch_is head cases = ap (branched_piece known) (sym (piece.rolls-Switch head cases)) ∙ fold-roll-Piece (List Inside → Tokens) Branch (piece_tokens known) (case_branch known) (P.Switch head cases)

  pub member_is : (on : Word) (dot : Span) (field : Word) → branched_piece known (piece.Member on dot field) ≡ piece_tokens known (P.Member on dot field)
  member_is on dot field = ap (branched_piece known) (sym (piece.rolls-Member on dot field)) ∙ fold-roll-Piece (List Inside → Tokens) Branch (piece_tokens known) (case_branch known) (P.Member on dot field)

  pub behind_is : (dot : Span) (field : Word) → branched_piece known (piece.Behind dot field) ≡ piece_tokens known (P.Behind dot field)
  behind_is dot field = ap (branched_piece known) (sym (piece.rolls-Behind dot field)) ∙ fold-roll-Piece (List Inside → Tokens) Branch (piece_tokens known) (case_branch known) (P.Behind dot field)

  pub plain_is : (t : Token) → branched_piece known (piece.Plain t) ≡ piece_tokens known (P.Plain t)
  plain_is t = ap (branched_piece known) (sym (piece.rolls-Plain t)) ∙ fold-roll-Piece (List Inside → Tokens) Branch (piece_tokens known) (case_branch known) (P.Plain t)

  pub case_is : (head : CaseHead) (body : List Piece) → branched_case known (record { head = head; body = body }) ≡ record { head = head; block = λ inside. branched known inside body }
  case_is head body = fold-roll-CaseForm (List Inside → Tokens) Branch (piece_tokens known) (case_branch known) (record { head = head; body = body })

pub types_of_type : (t : TypeForm) → types_of_piece (piece.Type t) ≡ types_step (P.Type t)
types_of_type t = ap types_of_piece (sym (piece.rolls-Type t)) ∙ fold-roll-Piece (List TypeWords) (List TypeWords) types_step (λ c. each c.body) (P.Type t)

pub types_of_switch : (head : SwitchHead) (cases : List CaseForm) → types_of_piece (piece.Switch head cases) ≡ each (map types_of_case cases)
types_of_switch head cases = ap types_of_piece (sym (piece.rolls-Switch head cases)) ∙ fold-roll-Piece (List TypeWords) (List TypeWords) types_step (λ c. each c.body) (P.Switch head cases)

pub types_of_member : (on : Word) (dot : Span) (field : Word) → types_of_piece (piece.Member on dot field) ≡ []
types_of_member on dot field = ap types_of_piece (sym (piece.rolls-Member on dot field)) ∙ fold-roll-Piece (List TypeWords) (List TypeWords) types_step (λ c. each c.body) (P.Member on dot field)

pub types_of_behind : (dot : Span) (field : Word) → types_of_piece (piece.Behind dot field) ≡ []
types_of_behind dot field = ap types_of_piece (sym (piece.rolls-Behind dot field)) ∙ fold-roll-Piece (List TypeWords) (List TypeWords) types_step (λ c. each c.body) (P.Behind dot field)

pub types_of_plain : (t : Token) → types_of_piece (piece.Plain t) ≡ []
types_of_plain t = ap types_of_piece (sym (piece.rolls-Plain t)) ∙ fold-roll-Piece (List TypeWords) (List TypeWords) types_step (λ c. each c.body) (P.Plain t)

pub types_of_body : (head : CaseHead) (body : List Piece) → types_of_case (record { head = head; body = body }) ≡ types_in body
types_of_body head body = fold-roll-CaseForm (List TypeWords) (List TypeWords) types_step (λ c. each c.body) (record { head = head; body = body })

module _ (test : Kind → Bool) (made : Makes test) where
  abbrev ok : List Token → Type 0
  ok ts = passes test ts ≡ true

  -- at most so many tokens, that pass the test
  record Few (ts : List Token) (n : ℕ) : Type 0 where
    pub ok : ok ts
    pub few : length ts ≤ n

  few_append : (xs ys : List Token) (m n k : ℕ) → Few xs m → Few ys n → m + n ≤ k → Few (xs ++ ys) k
  few_append xs ys m n k f g h = record { ok = passes_append test xs ys f.ok g.ok; few = omega (arith, f.few, g.few, h, length-append xs ys) }

  few_same : (xs ys : List Token) (n : ℕ) → xs ≡ ys → Few ys n → Few xs n
  few_same xs ys n e f = subst (λ ts. Few ts n) (sym e) f

  few_one : (k : Kind) (s : Span) → test k ≡ true → Few (record { kind = k; span = s } ∷ []) 1
  few_one k s h = record { ok = both (test k) true h refl; few = omega arith }

  -- Structs

  fields_few : (fs : List FieldForm) (a b : ℕ) → FieldsFit test fs a b → (i j : ℕ) → ok (fields_from i j fs) × (length (fields_from i j fs) + b ≤ a)
  unfolding fields_from
  fields_few [] a b h i j = (refl, omega (arith, h))
  fields_few (f ∷ fs) a b h i j =
      let r = fields_few fs h.0 b h.2 i (suc j) in
      let behind : Tokens = record { kind = kind.Word (made_name i j); span = f.word.span } ∷ (record { kind = kind.Mark mark.Semicolon; span = f.end } ∷ []) in
      let one : ok (field_tokens i j f) = passes_append test f.ty behind (h.1).0 (both _ _ (made.field i j) (both _ _ (made.sign mark.Semicolon) refl)) in
      (passes_append test (field_tokens i j f) (fields_from i (suc j) fs) one r.0, omega (arith, r.1, (h.1).1, length-append (field_tokens i j f) (fields_from i (suc j) fs), length-append f.ty behind))

  variants_few : (vs : List VariantForm) (a b : ℕ) → VariantsFit test vs a b → (i : ℕ) → ok (variants_from i vs) × (length (variants_from i vs) + b ≤ a)
  unfolding variants_from
  variants_few [] a b h i = (refl, omega (arith, h))
  variants_few (v ∷ vs) a b h i =
      let r = variants_few vs h.0 b h.2 (suc i) in
      let q = fields_few v.fields (h.1).0 (h.1).1 (h.1).3 i 0 in
      (passes_append test (fields_from i 0 v.fields) (variants_from (suc i) vs) q.0 r.0, omega (arith, r.1, q.1, (h.1).2, (h.1).4, length-append (fields_from i 0 v.fields) (variants_from (suc i) vs)))

  struct_few : (t : TypeForm) (a b : ℕ) → TypeFits test t a b → ok (struct_of t) × (length (struct_of t) + 3 * b ≤ 3 * a)
  struct_few t a b h =
      let r = variants_few t.variants h.from h.upto h.variants 0 in (
        both _ _ (made.keyword key.Struct refl) (both _ _ h.named (both _ _ (made.sign mark.OpenBrace)
            (both _ _ (made.keyword key.Int refl) (both _ _ made.tag (both _ _ (made.sign mark.Semicolon)
            (passes_append test (variants_from 0 t.variants) (record { kind = kind.Mark mark.CloseBrace; span = t.close } ∷ []) r.0 (both _ _ (made.sign mark.CloseBrace) refl))))))),
        omega (arith, r.1, h.front, h.back, length-append (variants_from 0 t.variants) (record { kind = kind.Mark mark.CloseBrace; span = t.close } ∷ [])),
      )

  -- Members

  pub or_made : (o : Option Known) (f : List ℕ) → WordPasses test f → WordPasses test (or_name f (option_and_then (λ k. made_field k f) o))
  or_made None f h = h
  or_made (Some k) f h = go (place_of k.fields f)
    where
      go : (o : Option ℕ) → WordPasses test (or_name f (option_map (made_name k.number) o))
      go None = h
      go (Some j) = made.field k.number j

  -- Pieces

  abbrev named : TypeWords → Bool
  named w = test (kind.Word w.word.name)

  pub record PieceFits (p : Piece) (a b : ℕ) : Type 0 where
    pub tokens : (known : List Known) (inside : List Inside) → ok (branched_piece known p inside) × (length (branched_piece known p inside) + 3 * b ≤ 3 * a)
    pub types : list_all named (types_of_piece p) ≡ true

  pub record CaseFits (c : CaseForm) (a b : ℕ) : Type 0 where
    pub tokens : (known : List Known) (inside : List Inside) → ok ((branched_case known c).block inside) × (length ((branched_case known c).block inside) + 15 + 3 * b ≤ 3 * a)
    pub types : list_all named (types_of_case c) ≡ true

  abbrev pub PiecesFit : List Piece → ℕ → ℕ → Type 0
  PiecesFit = Chain PieceFits

  abbrev CasesFit : List CaseForm → ℕ → ℕ → Type 0
  CasesFit = Chain CaseFits

  types_append : (xs ys : List TypeWords) → list_all named xs ≡ true → list_all named ys ≡ true → list_all named (xs ++ ys) ≡ true
  types_append xs ys h k = list_all-append named xs ys ∙ both _ _ h k

  pub pieces_few : (ps : List Piece) (a b : ℕ) → PiecesFit ps a b → (known : List Known) (inside : List Inside) → ok (branched known inside ps) × (length (branched known inside ps) + 3 * b ≤ 3 * a)
  pieces_few [] a b h known inside = (refl, omega (arith, h))
  pieces_few (p ∷ ps) a b h known inside =
      let q = (h.1).tokens known inside in
      let r = pieces_few ps h.0 b h.2 known inside in
      (passes_append test (branched_piece known p inside) (branched known inside ps) q.0 r.0, omega (arith, q.1, r.1, length-append (branched_piece known p inside) (branched known inside ps)))

  pub pieces_types : (ps : List Piece) (a b : ℕ) → PiecesFit ps a b → list_all named (types_in ps) ≡ true
  pieces_types [] a b h = refl
  pieces_types (p ∷ ps) a b h = types_append (types_of_piece p) (types_in ps) (h.1).types (pieces_types ps h.0 b h.2)

  cases_types : (cs : List CaseForm) (a b : ℕ) → CasesFit cs a b → list_all named (each (map types_of_case cs)) ≡ true
  cases_types [] a b h = refl
  cases_types (c ∷ cs) a b h = types_append (types_of_case c) (each (map types_of_case cs)) (h.1).types (cases_types cs h.0 b h.2)

  -- Chains of cases

  cond_few : (s : Spots) (x : List ℕ) (n : ℕ) → WordPasses test x → Few (condition s x n) 8
  cond_few s x n h = record {
    ok = both _ _ (made.keyword key.If refl) (both _ _ (made.sign mark.OpenParen) (both _ _ h (both _ _ (made.sign mark.Dot) (both _ _ made.tag (both _ _ (made.sign mark.Equal) (both _ _ (made.number n) (both _ _ (made.sign mark.CloseParen) refl)))))));
    few = omega arith;
  }

  block_few : (b : Branch) (inside : List Inside) (x : List ℕ) (m : ℕ) → Few (b.block (inside ++ record { on = x; variant = b.head.word.name } ∷ [])) m → Few (block_of b inside x) (m + 2)
  block_few b inside x m f =
      few_append (record { kind = kind.Mark mark.OpenBrace; span = b.head.«open» } ∷ []) _ 1 (m + 1) (m + 2)
      (few_one (kind.Mark mark.OpenBrace) b.head.«open» (made.sign mark.OpenBrace))
      (few_append (b.block (inside ++ record { on = x; variant = b.head.word.name } ∷ [])) _ m 1 (m + 1) f (few_one (kind.Mark mark.CloseBrace) b.head.close (made.sign mark.CloseBrace)) (omega arith))
      (omega arith)

  else_few : (s : Span) → Few (otherwise s) 2
  else_few s = record { ok = both _ _ (made.keyword key.Else refl) (both _ _ (made.sign mark.OpenBrace) refl); few = omega arith }

  branch_few : (known : List Known) (inside : List Inside) (x : List ℕ) (spots : Spots) (b : Branch) (m : ℕ) → WordPasses test x → Few (b.block (inside ++ record { on = x; variant = b.head.word.name } ∷ [])) m → Few (branch known inside x spots b) (m + 12)
  branch_few known inside x spots b m h f =
      let n = number_of_variant (variant_named known b.head.word.name) in
      few_append (condition spots x n) (block_of b inside x ++ otherwise b.head.close) 8 (m + 4) (m + 12) (cond_few spots x n h)
      (few_append (block_of b inside x) (otherwise b.head.close) (m + 2) 2 (m + 4) (block_few b inside x m f) (else_few b.head.close) (omega arith))
      (omega arith)

  refusal_ok : (s : Span) → ok (refusal s)
  refusal_ok s = both _ _ (made.keyword key.Assert refl) (both _ _ (made.keyword key.False refl) (both _ _ (made.sign mark.Semicolon) refl))

  chain_few : (cs : List CaseForm) (a b : ℕ) → CasesFit cs a b → (known : List Known) (inside : List Inside) (x : List ℕ) (last : Span) (spots : Spots) → WordPasses test x → ok (chain known inside x last spots (map (branched_case known) cs)) × (length (chain known inside x last spots (map (branched_case known) cs)) + 3 * b ≤ 3 * a + 3)
  unfolding chain
  chain_few [] a b h known inside x last spots w = (refusal_ok last, omega (arith, h))
  chain_few (c ∷ cs) a b h known inside x last spots w =
      let k : Branch = branched_case known c in
      let deeper : List Inside = inside ++ record { on = x; variant = k.head.word.name } ∷ [] in
      let t = (h.1).tokens known deeper in
      let f = branch_few known inside x spots k (length (k.block deeper)) w (record { ok = t.0; few = omega arith }) in
      let r = chain_few cs h.0 b h.2 known inside x last (all_at k.head.close) w in
      let rest : Tokens = chain known inside x last (all_at k.head.close) (map (branched_case known) cs) in
      let closing : Tokens = record { kind = kind.Mark mark.CloseBrace; span = last } ∷ [] in (
        passes_append test (branch known inside x spots k) (rest ++ closing) f.ok (passes_append test rest closing r.0 (both _ _ (made.sign mark.CloseBrace) refl)),
        omega (arith, t.1, f.few, r.1, length-append (branch known inside x spots k) (rest ++ closing), length-append rest closing),
      )

  -- Readers of cases

  abbrev InnerFits : (List Token → Found (List Piece)) → Type 0
  InnerFits inner = (us : List Token) → Old test us → (ps : List Piece) → inner us ≡ Ok ps → PiecesFit ps (length us) 0

  abbrev CasesOk : Found (List CaseForm) → ℕ → ℕ → Type 0
  CasesOk (Err at) a b = Unit {0}
  CasesOk (Ok cs) a b = CasesFit cs a b

  case_fits : (head : CaseHead) (body : List Piece) (k m b : ℕ) → PiecesFit body k 0 → k + 5 + b ≤ m → CaseFits (record { head = head; body = body }) m b
  case_fits head body k m b h l = record {
    tokens = λ known inside.
        let r = pieces_few body k 0 h known inside in
        let e : (branched_case known (record { head = head; body = body })).block inside ≡ branched known inside body = ap (λ (c : Branch). c.block inside) (case_is known head body) in
        (ap (passes test) e ∙ r.0, omega (arith, r.1, l, ap length e));
    types = ap (list_all named) (types_of_body head body) ∙ pieces_types body k 0 h;
  }

  with_case_ok : (f : Found (List CaseForm)) (head : CaseHead) (g : Found (List Piece)) (a k m b : ℕ) → CasesOk f a m → ((ps : List Piece) → g ≡ Ok ps → PiecesFit ps k 0) → k + 5 + b ≤ m → CasesOk (with_case f head g) a b
  with_case_ok (Err at) head g a k m b c i l = tt
  with_case_ok (Ok cases) head (Err at) a k m b c i l = tt
  with_case_ok (Ok cases) head (Ok body) a k m b c i l = chain_push CaseFits cases (record { head = head; body = body }) a m b c (case_fits head body k m b (i body refl) l)

  next_case_ok : (inner : List Token → Found (List Piece)) → InnerFits inner → (a : ℕ) (cases : Found (List CaseForm)) (ts : List Token) → CasesOk cases a (length ts) × Old test ts → Every (λ r. CasesOk r.0 a (length r.1) × Old test r.1) (next_case inner cases ts)
  unfolding next_case
  next_case_ok inner i a cases ts h =
      every_bind (case_at ts) _ (case_rest test ts h.1)
      (λ c q. every_some (with_case_ok cases c.0 (inner c.1.0) a (length c.1.0) (length ts) (length c.1.1) h.0 (i c.1.0 q.block_old) q.less, q.old))

  cases_ok : (inner : List Token → Found (List Piece)) → InnerFits inner → (ts : List Token) → Old test ts → Every (λ r. CasesOk r.0 (length ts) (length r.1) × Old test r.1) (cases_at inner ts)
  unfolding cases_at
  cases_ok inner i ts h =
      every_bind (next_case inner (Ok []) ts) _ (next_case_ok inner i (length ts) (Ok []) ts (refl, h))
      (λ first a. every_more (every_repeated at_close (next_case inner) (λ s rest. CasesOk s (length ts) (length rest) × Old test rest) (λ s rest c e. next_case_ok inner i (length ts) s rest c) first.0 first.1 a) (λ r c. c.0))

  abbrev PieceOk : Found Piece → ℕ → ℕ → Type 0
  PieceOk (Err at) a b = Unit {0}
  PieceOk (Ok p) a b = PieceFits p a b

  switch_fits : (head : SwitchHead) (cs : List CaseForm) (a n k b : ℕ) → WordPasses test head.on.name → CasesFit cs n k → n + 5 ≤ a → b + 1 ≤ k → PieceFits (piece.Switch head cs) a b
  switch_fits head cs a n k b w h front back = record {
    tokens = λ known inside.
        let r = chain_few cs n k h known inside head.on.name _ _ w in
        let e : branched_piece known (piece.Switch head cs) inside ≡ switch_tokens known head (map (branched_case known) cs) inside = ap (λ (f : List Inside → Tokens). f inside) (switch_is known head cs) in
        (ap (passes test) e ∙ r.0, omega (arith, r.1, front, back, ap length e));
    types = ap (list_all named) (types_of_switch head cs) ∙ cases_types cs n k h;
  }

  switched_ok : (head : SwitchHead) (f : Found (List CaseForm)) (a n k b : ℕ) → WordPasses test head.on.name → CasesOk f n k → n + 5 ≤ a → b + 1 ≤ k → PieceOk (switched head f) a b
  switched_ok head (Err at) a n k b w h front back = tt
  switched_ok head (Ok cs) a n k b w h front back = switch_fits head cs a n k b w h front back

  abbrev PieceAt : ℕ → Found Piece × List Token → Type 0
  PieceAt a r = PieceOk r.0 a (length r.1) × Old test r.1

  switch_ok : (inner : List Token → Found (List Piece)) → InnerFits inner → (ts : List Token) → Old test ts → Every (PieceAt (length ts)) (switch_at inner ts)
  unfolding switch_at
  switch_ok inner i ts h =
      every_bind (head_at ts) _ (head_rest test ts h)
      (λ head a. every_bind (mark_at mark.OpenBrace head.1) _ (mark_rest test mark.OpenBrace head.1 a.old)
      (λ opening b. every_bind (cases_at inner opening) _ (cases_ok inner i opening b.old)
      (λ cases c. every_bind (mark_at mark.CloseBrace cases.1) _ (mark_rest test mark.CloseBrace cases.1 c.1)
      (λ rest d. every_some (switched_ok head.0 cases.0 (length ts) (length opening) (length cases.1) (length rest) a.named c.0 (omega (arith, a.less, b.less)) (omega (arith, d.less)), d.old)))))

  typed_ok : (ts : List Token) → Old test ts → Every (PieceAt (length ts)) (typed_at ts)
  unfolding typed_at
  typed_ok ts h =
      every_bind (type_at ts) _ (type_fits test ts h)
      (λ r a. every_some (
        record {
          tokens = λ known inside.
              let s = struct_few r.0 (length ts) (length r.1) a.0 in
              let e : branched_piece known (piece.Type r.0) inside ≡ struct_of r.0 = ap (λ (f : List Inside → Tokens). f inside) (type_is known r.0) in
              (ap (passes test) e ∙ s.0, omega (arith, s.1, ap length e));
          types = ap (list_all named) (types_of_type r.0) ∙ both _ _ (a.0).named refl;
        },
        a.1,
      ))

  outside_ok : (t : Token) (ts : List Token) → Old test ts → (o : Option (Found Piece × List Token)) → Every (PieceAt (suc (length ts))) o → PieceAt (suc (length ts)) (or_outside t ts o)
  outside_ok t ts h None e = (tt, h)
  outside_ok t ts h (Some found) e = e.each found refl

  -- Other pieces

  plain_fits : (t : Token) (ts : List Token) → test t.kind ≡ true → PieceFits (piece.Plain t) (suc (length ts)) (length ts)
  plain_fits t ts h = record {
    tokens = λ known inside.
        let e : branched_piece known (piece.Plain t) inside ≡ t ∷ [] = ap (λ (f : List Inside → Tokens). f inside) (plain_is known t) in
        (ap (passes test) e ∙ both _ _ h refl, omega (arith, ap length e));
    types = ap (list_all named) (types_of_plain t);
  }

  renamed : (known : List Known) (inside : List Inside) (x f : List ℕ) → WordPasses test f → WordPasses test (member_name known inside x f)
  unfolding member_name
  renamed known inside x f h = or_made (option_and_then (variant_named known) (innermost None inside x)) f h

  member_fits : (on : Word) (dot : Span) (field : Word) (a b : ℕ) → WordPasses test on.name → WordPasses test field.name → b + 3 ≤ a → PieceFits (piece.Member on dot field) a b
  member_fits on dot field a b h k l = record {
    tokens = λ known inside.
        let e : branched_piece known (piece.Member on dot field) inside ≡ member_tokens known inside on dot field = ap (λ (f : List Inside → Tokens). f inside) (member_is known on dot field) in
        (ap (passes test) e ∙ both _ _ h (both _ _ (made.sign mark.Dot) (both _ _ (renamed known inside on.name field.name k) refl)), omega (arith, l, ap length e));
    types = ap (list_all named) (types_of_member on dot field);
  }

  behind_fits : (dot : Span) (field : Word) (a b : ℕ) → WordPasses test field.name → b + 2 ≤ a → PieceFits (piece.Behind dot field) a b
  behind_fits dot field a b k l = record {
    tokens = λ known inside.
        let e : branched_piece known (piece.Behind dot field) inside ≡ piece_tokens known (P.Behind dot field) inside = ap (λ (f : List Inside → Tokens). f inside) (behind_is known dot field) in
        (ap (passes test) e ∙ both _ _ (made.sign mark.Dot) (both _ _ k refl), omega (arith, l, ap length e));
    types = ap (list_all named) (types_of_behind dot field);
  }

  abbrev PlainAt : ℕ → Piece × List Token → Type 0
  PlainAt a r = PieceFits r.0 a (length r.1) × Old test r.1

  member_ok : (t : Token) (ts : List Token) (x : List ℕ) → test t.kind ≡ true → WordPasses test x → Old test ts → (o : Option (Span × (Word × List Token))) → Every (λ r. (length r.1.1 + 2 ≤ length ts) × WordPasses test r.1.0.name × Old test r.1.1) o → PlainAt (suc (length ts)) (member t ts x o)
  member_ok t ts x p w h None e = (plain_fits t ts p, h)
  member_ok t ts x p w h (Some s) e = let r = e.each s refl in (member_fits (record { name = x; span = t.span }) s.0 s.1.0 (suc (length ts)) (length s.1.1) w r.1 (omega (arith, r.0)), r.2)

  behind_ok : (t : Token) (ts : List Token) → test t.kind ≡ true → Old test ts → (o : Option (Word × List Token)) → Every (λ r. (length r.1 < length ts) × WordPasses test r.0.name × Old test r.1) o → PlainAt (suc (length ts)) (behind t ts o)
  behind_ok t ts p h None e = (plain_fits t ts p, h)
  behind_ok t ts p h (Some f) e = let r = e.each f refl in (behind_fits t.span f.0 (suc (length ts)) (length f.1) r.1 (omega (arith, r.0)), r.2)

  plain_ok : (t : Token) (ts : List Token) → test t.kind ≡ true → Old test ts → PlainAt (suc (length ts)) (plain_at t ts)
  unfolding plain_at
  plain_ok t ts p h = go t.kind refl
    where
      go : (k : Kind) → t.kind ≡ k → PlainAt (suc (length ts)) (plain_kind t ts k)
      go (kind.Word x) e = member_ok t ts x p (ap test (sym e) ∙ p) h (selected_at ts) (selected_rest test ts h)
      go (kind.Mark mark.Dot) e = behind_ok t ts p h (name_at ts) (every_more (name_rest test ts h) (λ r a. ((a.0).less, a.1, (a.0).old)))
      go _ e = (plain_fits t ts p, h)

  piece_ok : (inner : List Token → Found (List Piece)) → InnerFits inner → (t : Token) (ts : List Token) → Old test (t ∷ ts) → PieceAt (suc (length ts)) (piece_at inner t ts)
  unfolding piece_at ok_plain
  piece_ok inner i t ts h = go t.kind refl
    where
      go : (k : Kind) → t.kind ≡ k → PieceAt (suc (length ts)) (piece_kind inner t ts k)
      go (kind.Key key.Adt) e = outside_ok t ts (old_rest test t ts h) (typed_at (t ∷ ts)) (typed_ok (t ∷ ts) h)
      go (kind.Key key.Switch) e = outside_ok t ts (old_rest test t ts h) (switch_at inner (t ∷ ts)) (switch_ok inner i (t ∷ ts) h)
      go (kind.Key key.Case) e = (tt, old_rest test t ts h)
      go _ e = plain_ok t ts (old_here test t ts h (ap is_plain e)) (old_rest test t ts h)

  step_fits : (left : ℕ) → ((a : ℕ) (so_far : List Piece) (ts : List Token) (ps : List Piece) → PiecesFit so_far a (length ts) → Old test ts → pieces_from left so_far ts ≡ Ok ps → PiecesFit ps a 0) → (a n : ℕ) (so_far : List Piece) (f : Found Piece) (rest : List Token) (ps : List Piece) → PiecesFit so_far a n → PieceOk f n (length rest) × Old test rest → with_piece (pieces_from left) so_far f rest ≡ Ok ps → PiecesFit ps a 0
  step_fits left again a n so_far (Err at) rest ps c q e = cc
  step_fits left again a n so_far (Ok p) rest ps c q e = again a (so_far ++ p ∷ []) rest ps (chain_push PieceFits so_far p a n (length rest) c q.0) q.1 e

  from_fits : (left a : ℕ) (so_far : List Piece) (ts : List Token) (ps : List Piece) → PiecesFit so_far a (length ts) → Old test ts → pieces_from left so_far ts ≡ Ok ps → PiecesFit ps a 0
  unfolding pieces_from
  from_fits zero a so_far [] ps c h e = let same : so_far ≡ ps = cc in subst (λ qs. PiecesFit qs a 0) same c
  from_fits (suc left) a so_far [] ps c h e = let same : so_far ≡ ps = cc in subst (λ qs. PiecesFit qs a 0) same c
  from_fits zero a so_far (t ∷ ts) ps c h e = cc
  from_fits (suc left) a so_far (t ∷ ts) ps c h e =
      let q = piece_ok (pieces_from left []) (λ us o qs f. from_fits left (length us) [] us qs refl o f) t ts h in
      step_fits left (from_fits left) a (suc (length ts)) so_far (piece_at (pieces_from left []) t ts).0 (piece_at (pieces_from left []) t ts).1 ps c q e

  pub of_pieces : (ts : List Token) (ps : List Piece) → Old test ts → pieces_of ts ≡ Ok ps → PiecesFit ps (length ts) 0
  unfolding pieces_of
  of_pieces ts ps h e = from_fits (length ts) (length ts) [] ts ps refl h e
