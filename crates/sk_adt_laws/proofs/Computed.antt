-- The examples, computed.
use Rattle.std.proofs.Common.{◌≡◌, List, [], ◌∷◌, ◌++◌, map, Option, Some, None, refl, sym, ap, ◌∙◌}
use Rattle.std.specs.Prelude.{Result, Ok, Err}
use Rattle.std.specs.Fmt.{digits}
use Rattle.sk_base.specs.declared.span.Span.{Span}
use Rattle.sk_tree.specs.declared.token.Token.{Token}
use Rattle.sk_tree.specs.Spell.{◌▹◌}
use Rattle.sk_parser_laws.specs.Readers.{mark_ahead, mark_at, taken, turns, repeated}
use Rattle.sk_adt.specs.declared.algebraic.AdtFault.{AdtFault}
use Rattle.sk_adt.specs.declared.algebraic.Lowered.{Lowered}
use Rattle.sk_adt.specs.declared.form.Word.{Word}
use Rattle.sk_adt.specs.declared.form.TypeForm.{TypeForm}
use Rattle.sk_adt.specs.declared.form.CaseHead.{CaseHead}
use Rattle.sk_adt.specs.declared.form.CaseForm.{CaseForm}
use Rattle.sk_adt.specs.declared.form.SwitchHead.{SwitchHead}
use Rattle.sk_adt.specs.declared.form.Known.{Known}
use Rattle.sk_adt.specs.declared.form.Inside.{Inside}
use Rattle.sk_adt.specs.declared.form.TypeWords.{TypeWords}
use Rattle.sk_adt.specs.declared.form.Piece.{Piece}
use Rattle.sk_adt.specs.declared.form.Piece.TheVariants as piece
use Rattle.sk_adt.specs.declared.form.Piece.TheOpen as P
use Rattle.sk_adt.specs.declared.form.Piece.TheFolds.{fold-roll-Piece, fold-roll-CaseForm}
use Rattle.sk_adt.specs.Forms.{sign_at, keyword_at, name_at, at_close, behind_one, behind_length, behind_any_length, behind_type, field_at, next_field, variant_at, next_variant, variants_at, type_at, close_at, case_at, head_at, next_case, cases_at, switch_at, typed_at, selected_at, plain_at, ok_plain, piece_at, pieces_from, pieces_of}
use Rattle.sk_adt.specs.Words.{each, type_words, types_of_case, types_in, switches_step, switches_of_piece, switches_of_case, switches_in, known_from, known_in, algebraic_of, variant_named}
use Rattle.sk_adt.specs.Faults.{first_again, first_stray, stray, fault_of}
use Rattle.sk_adt.specs.Branches.{Tokens, fields_from, variants_from, struct_of, innermost, member_name, member_tokens, last_close, chain, Branch, switch_tokens, branched_case, branched}
use Rattle.sk_adt.specs.Builds.{innermost_list, behind_new, set_name, token_built, next_before, next_lists, built_from, built}
use Rattle.sk_adt.specs.Lowering.{or_plain, lowered_pieces, lowered}
use Rattle.sk_adt_laws.specs.Examples.{from, type_text, switch_text, new_text, stray_text, LoweringExamples}
use Rattle.sk_adt_laws.proofs.Walk.{type_is, switch_is, member_is, plain_is, case_is, types_of_type, types_of_switch, types_of_member, types_of_plain, types_of_body}
use Rattle.sk_adt_laws.proofs.Stay.{switches_of_member, switches_of_plain}

-- the types and the switches of pieces, and what takes their place
record Seen (ps : List Piece) (types : List TypeWords) (switches : List (List Word)) (tokens : List Known → List Inside → Tokens) : Type 0 where
  types_are : types_in ps ≡ types
  switches_are : switches_in ps ≡ switches
  tokens_are : (known : List Known) (inside : List Inside) → branched known inside ps ≡ tokens known inside

record SeenCases (cs : List CaseForm) (words : List Word) (types : List TypeWords) (switches : List (List Word)) (branches : List Known → List Branch) : Type 0 where
  words_are : map (λ c. c.0) (map switches_of_case cs) ≡ words
  types_are : each (map types_of_case cs) ≡ types
  switches_are : each (map (λ c. c.1) (map switches_of_case cs)) ≡ switches
  branches_are : (known : List Known) → map (branched_case known) cs ≡ branches known

switches_of_type : (t : TypeForm) → switches_of_piece (piece.Type t) ≡ []
switches_of_type t = ap switches_of_piece (sym (piece.rolls-Type t)) ∙ fold-roll-Piece (List (List Word)) (Word × List (List Word)) switches_step (λ c. (c.head.word, each c.body)) (P.Type t)

switches_of_switch : (head : SwitchHead) (cs : List CaseForm) → switches_of_piece (piece.Switch head cs) ≡ map (λ c. c.0) (map switches_of_case cs) ∷ each (map (λ c. c.1) (map switches_of_case cs))
switches_of_switch head cs = ap switches_of_piece (sym (piece.rolls-Switch head cs)) ∙ fold-roll-Piece (List (List Word)) (Word × List (List Word)) switches_step (λ c. (c.head.word, each c.body)) (P.Switch head cs)

switches_of_body : (head : CaseHead) (body : List Piece) → switches_of_case (record { head = head; body = body }) ≡ (head.word, switches_in body)
switches_of_body head body = fold-roll-CaseForm (List (List Word)) (Word × List (List Word)) switches_step (λ c. (c.head.word, each c.body)) (record { head = head; body = body })

no_pieces : Seen [] [] [] (λ known inside. [])
no_pieces = record { types_are = refl; switches_are = refl; tokens_are = λ known inside. refl }

no_cases : SeenCases [] [] [] [] (λ known. [])
no_cases = record { words_are = refl; types_are = refl; switches_are = refl; branches_are = λ known. refl }

module _ {ps : List Piece} {ty : List TypeWords} {sw : List (List Word)} {tok : List Known → List Inside → Tokens} (s : Seen ps ty sw tok) where
  typed : (t : TypeForm) → Seen (piece.Type t ∷ ps) (type_words t ∷ ty) sw (λ known inside. struct_of t ++ tok known inside)
  typed t = record {
    types_are = λ i. types_of_type t i ++ s.types_are i;
    switches_are = λ i. switches_of_type t i ++ s.switches_are i;
    tokens_are = λ known inside i. type_is known t i inside ++ s.tokens_are known inside i;
  }

  member : (on : Word) (dot : Span) (field : Word) → Seen (piece.Member on dot field ∷ ps) ty sw (λ known inside. member_tokens known inside on dot field ++ tok known inside)
  member on dot field = record {
    types_are = λ i. types_of_member on dot field i ++ s.types_are i;
    switches_are = λ i. switches_of_member on dot field i ++ s.switches_are i;
    tokens_are = λ known inside i. member_is known on dot field i inside ++ s.tokens_are known inside i;
  }

  plain : (t : Token) → Seen (piece.Plain t ∷ ps) ty sw (λ known inside. t ∷ tok known inside)
  plain t = record {
    types_are = λ i. types_of_plain t i ++ s.types_are i;
    switches_are = λ i. switches_of_plain t i ++ s.switches_are i;
    tokens_are = λ known inside i. plain_is known t i inside ++ s.tokens_are known inside i;
  }

  a_case : {cs : List CaseForm} {words : List Word} {ty' : List TypeWords} {sw' : List (List Word)} {bs : List Known → List Branch} → SeenCases cs words ty' sw' bs → (head : CaseHead) → SeenCases (record { head = head; body = ps } ∷ cs) (head.word ∷ words) (ty ++ ty') (sw ++ sw') (λ known. record { head = head; block = λ inside. tok known inside } ∷ bs known)
  a_case {cs = cs} c head = record {
    words_are = λ i. (switches_of_body head ps i).0 ∷ c.words_are i;
    types_are = ap (λ l. l ++ each (map types_of_case cs)) (types_of_body head ps) ∙ (λ i. s.types_are i ++ c.types_are i);
    switches_are = ap (λ (r : Word × List (List Word)). r.1 ++ each (map (λ c. c.1) (map switches_of_case cs))) (switches_of_body head ps) ∙ (λ i. s.switches_are i ++ c.switches_are i);
    branches_are = λ known. ap (λ b. b ∷ map (branched_case known) cs) (case_is known head ps) ∙ (λ i. record { head = head; block = λ inside. s.tokens_are known inside i } ∷ c.branches_are known i);
  }

  switched : {cs : List CaseForm} {words : List Word} {ty' : List TypeWords} {sw' : List (List Word)} {bs : List Known → List Branch} → SeenCases cs words ty' sw' bs → (head : SwitchHead) → Seen (piece.Switch head cs ∷ ps) (ty' ++ ty) (words ∷ (sw' ++ sw)) (λ known inside. switch_tokens known head (bs known) inside ++ tok known inside)
  switched {cs = cs} c head = record {
    types_are = ap (λ l. l ++ types_in ps) (types_of_switch head cs) ∙ (λ i. c.types_are i ++ s.types_are i);
    switches_are = ap (λ l. l ++ switches_in ps) (switches_of_switch head cs) ∙ (λ i. c.words_are i ∷ (c.switches_are i ++ s.switches_are i));
    tokens_are = λ known inside. ap (λ (f : List Inside → Tokens). f inside ++ branched known inside ps) (switch_is known head cs) ∙ (λ i. switch_tokens known head (c.branches_are known i) inside ++ s.tokens_are known inside i);
  }

abbrev shown : Option AdtFault → List TypeWords → (List Known → List Inside → Tokens) → Result Lowered AdtFault
shown None types tokens = Ok (record { tokens = built (known_in types) (tokens (known_in types) []); types = map algebraic_of types })
shown (Some f) types tokens = Err f

as_shown : (ps : List Piece) (ty : List TypeWords) (tok : List Known → List Inside → Tokens) (o : Option AdtFault) → ((known : List Known) (inside : List Inside) → branched known inside ps ≡ tok known inside) → or_plain ty ps o ≡ shown o ty tok
as_shown ps ty tok None e = ap (λ (l : Tokens). Ok (record { tokens = built (known_in ty) l; types = map algebraic_of ty })) (e (known_in ty) [])
as_shown ps ty tok (Some f) e = refl

seen : (ts : List Token) {ps : List Piece} {ty : List TypeWords} {sw : List (List Word)} {tok : List Known → List Inside → Tokens} → pieces_of ts ≡ Ok ps → Seen ps ty sw tok → lowered ts ≡ shown (fault_of ty sw) ty tok
unfolding lowered
seen ts {ps} {ty} {sw} {tok} e s =
    ap lowered_pieces e ∙ (λ i. or_plain (s.types_are i) ps (fault_of (s.types_are i) (s.switches_are i))) ∙ as_shown ps ty tok (fault_of ty sw) s.tokens_are

pub examples : LoweringExamples
unfolding sign_at keyword_at name_at at_close behind_one behind_length behind_any_length behind_type field_at next_field variant_at next_variant variants_at type_at close_at case_at head_at next_case cases_at switch_at typed_at selected_at plain_at ok_plain piece_at pieces_from pieces_of mark_ahead mark_at taken turns repeated known_from variant_named first_again first_stray stray fields_from variants_from innermost member_name last_close chain innermost_list behind_new set_name token_built next_before next_lists built_from lowered digits
examples = record {
  type = seen (from 0 (type_text ▹ [])) refl (typed no_pieces _);
  switch = seen (from 0 (type_text ▹ switch_text)) refl (typed (switched no_pieces (a_case (member (plain no_pieces _) _ _ _) (a_case no_pieces no_cases _) _) _) _);
  new = seen (from 0 (type_text ▹ new_text)) refl (typed (plain (plain (plain (plain (plain (plain (plain (plain (plain (plain (plain (plain (plain (plain (plain no_pieces _) _) _) _) _) _) _) _) _) _) _) _) _) _) _) _);
  no_form = refl;
  twice = seen (from 0 (type_text ▹ type_text)) refl (typed (typed no_pieces _) _);
  no_variant = seen (from 0 (type_text ▹ stray_text)) refl (typed (switched no_pieces (a_case no_pieces no_cases _) _) _);
}
