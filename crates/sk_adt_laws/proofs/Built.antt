-- What takes the place of `new V (` and the fields in it: the kinds of its tokens, and how many they are.
use Rattle.std.proofs.Common.{◌≡◌, ℕ, zero, suc, ◌*◌, ◌≤◌, Bool, true, false, List, [], ◌∷◌, length, map, Option, Some, None, refl, sym, ap, ◌∙◌, arith, length-append, if◌then◌else◌}
use Rattle.std.specs.Prelude.{Ok, Err, option_and_then, slice_get}
use Rattle.std.specs.List.{list_all}
use Rattle.std.proofs.lemmas.List.Folds.{list_all-append}
use Rattle.sk_base.specs.declared.span.Span.{Span}
use Rattle.sk_tree.specs.declared.token.Token.{Token}
use Rattle.sk_tree.specs.declared.token.Kind.{Kind}
use Rattle.sk_tree.specs.declared.token.Kind.TheVariants as kind
use Rattle.sk_tree.specs.declared.token.Mark.TheVariants as mark
use Rattle.sk_types_laws.proofs.Ats.{both_true, both}
use Rattle.sk_types_rules.specs.Scope.{place_of}
use Rattle.sk_parser_laws.specs.Readers.{mark_ahead}
use Rattle.sk_parser_laws.proofs.Loops.{Every, every_none, every_some}
use Rattle.sk_adt.specs.declared.algebraic.AdtFault.{AdtFault}
use Rattle.sk_adt.specs.declared.algebraic.Lowered.{Lowered}
use Rattle.sk_adt.specs.declared.form.Known.{Known}
use Rattle.sk_adt.specs.declared.form.Before.{Before}
use Rattle.sk_adt.specs.declared.form.Before.TheVariants as before
use Rattle.sk_adt.specs.declared.form.Piece.{Piece}
use Rattle.sk_adt.specs.declared.form.TypeWords.{TypeWords}
use Rattle.sk_adt.specs.declared.form.VariantWords.{VariantWords}
use Rattle.sk_adt.specs.Forms.{Found, pieces_of}
use Rattle.sk_adt.specs.Words.{known_from, known_of, known_in, types_in, switches_in, variant_named}
use Rattle.sk_adt.specs.Faults.{fault_of}
use Rattle.sk_adt.specs.Branches.{Tokens, made_field, or_name, branched}
use Rattle.sk_adt.specs.Builds.{Lists, innermost_list, gap, behind_new, set_name, new_name, opening, token_kind, token_built, next_before, next_lists, built_from, built}
use Rattle.sk_adt.specs.Lowering.{plain_form, or_plain, lowered_pieces, lowered}
use Rattle.sk_adt_laws.proofs.Read.{passes, passes_append, Makes, WordPasses, Old}
use Rattle.sk_adt_laws.proofs.Walk.{or_made, pieces_few, pieces_types, of_pieces}

module _ (test : Kind → Bool) (made : Makes test) where
  abbrev of_type : Known → Bool
  of_type k = test (kind.Word k.ty)

  get_passes : (known : List Known) (i : ℕ) → list_all of_type known ≡ true → Every (λ k. of_type k ≡ true) (slice_get known i)
  get_passes [] i h = record { each = λ k e. cc }
  get_passes (k ∷ ks) zero h = every_some (both_true (of_type k) _ h).0
  get_passes (k ∷ ks) (suc i) h = record { each = λ l e. (get_passes ks i (both_true (of_type k) _ h).1).each l e }

  named_passes : (known : List Known) (x : List ℕ) → list_all of_type known ≡ true → Every (λ k. of_type k ≡ true) (variant_named known x)
  unfolding variant_named
  named_passes known x h = go (place_of (map (λ k. k.name) known) x)
    where
      go : (o : Option ℕ) → Every (λ k. of_type k ≡ true) (option_and_then (slice_get known) o)
      go None = every_none
      go (Some i) = get_passes known i h

  module _ (known : List Known) (typed : list_all of_type known ≡ true) where
    new_passes : (b : Before) (x : List ℕ) (after : List Token) → Every (λ k. of_type k ≡ true) (behind_new known b x after)
    unfolding behind_new
    new_passes before.New x after = go (mark_ahead mark.OpenParen after)
      where
        go : (c : Bool) → Every (λ k. of_type k ≡ true) (if c then variant_named known x else None)
        go true = named_passes known x typed
        go false = every_none
    new_passes before.Other x after = every_none
    new_passes (before.Variant v) x after = every_none

    set_passes : (lists : Lists) (x : List ℕ) (after : List Token) → WordPasses test x → WordPasses test (set_name known lists x after)
    unfolding set_name
    set_passes lists x after h = go (mark_ahead mark.Assign after)
      where
        go : (c : Bool) → WordPasses test (if c then or_name x (option_and_then (λ k. made_field k x) (option_and_then (variant_named known) (innermost_list lists))) else x)
        go true = or_made test made (option_and_then (variant_named known) (innermost_list lists)) x h
        go false = h

    name_passes : (lists : Lists) (x : List ℕ) (after : List Token) → WordPasses test x → (o : Option Known) → Every (λ k. of_type k ≡ true) o → WordPasses test (new_name known lists x after o)
    name_passes lists x after h None e = set_passes lists x after h
    name_passes lists x after h (Some k) e = e.each k refl

    abbrev comma : Span → Tokens
    comma s = record { kind = kind.Mark mark.Comma; span = s } ∷ []

    gap_few : (after : List Token) (s : Span) → (passes test (gap after s) ≡ true) × (length (gap after s) ≤ 1)
    gap_few after s = go (mark_ahead mark.CloseParen after)
      where
        go : (c : Bool) → (passes test (if c then [] else comma s) ≡ true) × (length (if c then [] else comma s) ≤ 1)
        go true = (refl, omega arith)
        go false = (both _ _ (made.sign mark.Comma) refl, omega arith)

    opening_few : (b : Before) (s : Span) (after : List Token) → (passes test (opening known b s after) ≡ true) × (length (opening known b s after) ≤ 5)
    opening_few (before.Variant v) s after =
        let g = gap_few after s in
        (both _ _ (made.sign mark.OpenParen) (both _ _ made.tag (both _ _ (made.sign mark.Assign) (both _ _ (made.number _) g.0))), omega (arith, g.1))
    opening_few before.Other s after = (both _ _ (made.sign mark.OpenParen) refl, omega arith)
    opening_few before.New s after = (both _ _ (made.sign mark.OpenParen) refl, omega arith)

    token_few : (b : Before) (lists : Lists) (t : Token) (after : List Token) → test t.kind ≡ true → (passes test (token_built known b lists t after) ≡ true) × (length (token_built known b lists t after) ≤ 5)
    unfolding token_built
    token_few b lists t after h = go t.kind refl
      where
        go : (k : Kind) → t.kind ≡ k → (passes test (token_kind known b lists t after k) ≡ true) × (length (token_kind known b lists t after k) ≤ 5)
        go (kind.Word x) e = (both _ _ (name_passes lists x after (ap test (sym e) ∙ h) (behind_new known b x after) (new_passes b x after)) refl, omega arith)
        go (kind.Mark mark.OpenParen) e = opening_few b t.span after
        go _ e = (both _ _ h refl, omega arith)

    built_few : (b : Before) (lists : Lists) (ts : List Token) → passes test ts ≡ true → (passes test (built_from known b lists ts) ≡ true) × (length (built_from known b lists ts) ≤ 5 * length ts)
    unfolding built_from
    built_few b lists [] h = (refl, omega arith)
    built_few b lists (t ∷ ts) h =
        let k = both_true (test t.kind) _ h in
        let q = token_few b lists t ts k.0 in
        let r = built_few (next_before known b t ts) (next_lists b lists t) ts k.1 in
        (passes_append test (token_built known b lists t ts) (built_from known (next_before known b t ts) (next_lists b lists t) ts) q.0 r.0, omega (arith, q.1, r.1, length-append (token_built known b lists t ts) (built_from known (next_before known b t ts) (next_lists b lists t) ts)))

  known_passes : (n : ℕ) (ty : List ℕ) (vs : List VariantWords) → WordPasses test ty → list_all of_type (known_from n ty vs) ≡ true
  unfolding known_from
  known_passes n ty [] h = refl
  known_passes n ty (v ∷ vs) h = both _ _ h (known_passes (suc n) ty vs h)

  all_passes : (types : List TypeWords) → list_all (λ (w : TypeWords). test (kind.Word w.word.name)) types ≡ true → list_all of_type (known_in types) ≡ true
  all_passes [] h = refl
  all_passes (w ∷ ws) h =
      let k = both_true (test (kind.Word w.word.name)) _ h in
      list_all-append of_type (known_of w) (known_in ws) ∙ both _ _ (known_passes 0 w.word.name w.variants k.0) (all_passes ws k.1)

-- A text with a plain form has pieces, of which that form is made.
pub record IsFormed (ts : List Token) (form : Lowered) : Type 0 where
  pub pieces : List Piece
  pub read : pieces_of ts ≡ Ok pieces
  pub made : form ≡ plain_form (types_in pieces) pieces

pub formed : (ts : List Token) (form : Lowered) → lowered ts ≡ Ok form → IsFormed ts form
unfolding lowered
formed ts form e = go (pieces_of ts) refl e
  where
    none : (ps : List Piece) (o : Option AdtFault) → or_plain (types_in ps) ps o ≡ Ok form → form ≡ plain_form (types_in ps) ps
    none ps None f = cc
    none ps (Some g) f = cc

    go : (r : Found (List Piece)) → pieces_of ts ≡ r → lowered_pieces r ≡ Ok form → IsFormed ts form
    go (Err at) is f = cc
    go (Ok ps) is f = record { pieces = ps; read = is; made = none ps (fault_of (types_in ps) (switches_in ps)) f }

pub form_few : (test : Kind → Bool) → Makes test → (ts : List Token) (form : Lowered) → Old test ts → lowered ts ≡ Ok form → (passes test form.tokens ≡ true) × (length form.tokens ≤ 15 * length ts)
form_few test made ts form h e =
    let f = formed ts form e in
    let fit = of_pieces test made ts f.pieces h f.read in
    let known : List Known = known_in (types_in f.pieces) in
    let b = pieces_few test made f.pieces (length ts) 0 fit known [] in
    let r = built_few test made known (all_passes test made (types_in f.pieces) (pieces_types test made f.pieces (length ts) 0 fit)) before.Other [] (branched known [] f.pieces) b.0 in
    let same : form.tokens ≡ built known (branched known [] f.pieces) = ap (λ (l : Lowered). l.tokens) f.made in
    (ap (passes test) same ∙ r.0, omega (arith, b.1, r.1, ap length same))
