-- A text without the words of algebraic types is its own plain form.
use Rattle.std.proofs.Common.{◌≡◌, ℕ, zero, suc, ◌≤◌, Bool, true, false, List, [], ◌∷◌, ◌++◌, length, Option, Some, None, refl, sym, ap, subst, ◌∙◌, arith, append_assoc, append-nil, if◌then◌else◌}
use Rattle.std.specs.Prelude.{Ok, option_and_then}
use Rattle.sk_base.specs.declared.span.Span.{Span}
use Rattle.sk_tree.specs.declared.token.Token.{Token}
use Rattle.sk_tree.specs.declared.token.Kind.{Kind}
use Rattle.sk_tree.specs.declared.token.Kind.TheVariants as kind
use Rattle.sk_tree.specs.declared.token.Mark.TheVariants as mark
use Rattle.sk_tree.specs.declared.token.Key.TheVariants as key
use Rattle.sk_types_laws.proofs.Ats.{both_true}
use Rattle.sk_parser_laws.specs.Readers.{is_mark, mark_ahead}
use Rattle.sk_parser_laws.proofs.Loops.{pair, Every, every_none, every_some, every_bind, every_if}
use Rattle.sk_adt.specs.declared.form.Word.{Word}
use Rattle.sk_adt.specs.declared.form.Inside.{Inside}
use Rattle.sk_adt.specs.declared.form.Known.{Known}
use Rattle.sk_adt.specs.declared.form.Before.{Before}
use Rattle.sk_adt.specs.declared.form.Before.TheVariants as before
use Rattle.sk_adt.specs.declared.form.Piece.{Piece}
use Rattle.sk_adt.specs.declared.form.Piece.TheVariants as piece
use Rattle.sk_adt.specs.declared.form.Piece.TheOpen as P
use Rattle.sk_adt.specs.declared.form.Piece.TheFolds.{fold-roll-Piece}
use Rattle.sk_adt.specs.Words.{each, types_of_piece, types_in, switches_step, switches_of_piece, switches_in, variant_named}
use Rattle.sk_adt.specs.Forms.{sign_at, word_kind, name_at, selected_at, Found, member, behind, plain_kind, plain_at, ok_plain, piece_kind, piece_at, with_piece, pieces_from, pieces_of}
use Rattle.sk_adt.specs.Faults.{first_again, fault_of}
use Rattle.sk_adt.specs.Branches.{Tokens, made_field, or_name, member_name, innermost, branched_piece, branched}
use Rattle.sk_adt.specs.Builds.{Lists, innermost_list, behind_new, set_name, new_name, opening, token_kind, token_built, variant_before, before_kind, next_before, next_lists, built_from}
use Rattle.sk_adt.specs.Lowering.{or_plain, lowered_pieces, lowered}
use Rattle.sk_adt_laws.specs.Plain.{is_plain, are_plain}
use Rattle.sk_adt_laws.specs.Laws.{PlainTextsStay}
use Rattle.sk_adt_laws.proofs.Walk.{member_is, behind_is, plain_is, types_of_member, types_of_behind, types_of_plain}

abbrev token : Kind → Span → Token
token k s = record { kind = k; span = s }

as_is : (t : Token) (k : Kind) → t.kind ≡ k → t ≡ token k t.span
as_is t k e = ap (λ z. token z t.span) e

dot_is : (k : Kind) → is_mark mark.Dot k ≡ true → k ≡ kind.Mark mark.Dot
dot_is (kind.Mark mark.Dot) h = refl
dot_is _ h = cc

dot_read : (ts : List Token) → Every (λ r. ts ≡ token (kind.Mark mark.Dot) r.0 ∷ r.1) (sign_at mark.Dot ts)
unfolding sign_at
dot_read [] = every_none
dot_read (t ∷ ts) = every_if (is_mark mark.Dot t.kind) (Some (pair t.span ts)) None (λ e. every_some (ap (λ z. z ∷ ts) (as_is t (kind.Mark mark.Dot) (dot_is t.kind e)))) (λ e. every_none)

name_read : (ts : List Token) → Every (λ r. ts ≡ token (kind.Word r.0.name) r.0.span ∷ r.1) (name_at ts)
unfolding name_at
name_read [] = every_none
name_read (t ∷ ts) = go t.kind refl
  where
    go : (k : Kind) → t.kind ≡ k → Every (λ r. t ∷ ts ≡ token (kind.Word r.0.name) r.0.span ∷ r.1) (word_kind k t.span ts)
    go (kind.Word x) e = every_some (ap (λ z. z ∷ ts) (as_is t (kind.Word x) e))
    go (kind.Number n) e = every_none
    go (kind.Text x) e = every_none
    go (kind.Key k) e = every_none
    go (kind.Mark m) e = every_none

selected_read : (ts : List Token) → Every (λ r. ts ≡ token (kind.Mark mark.Dot) r.0 ∷ (token (kind.Word r.1.0.name) r.1.0.span ∷ r.1.1)) (selected_at ts)
unfolding selected_at
selected_read ts =
    every_bind (sign_at mark.Dot ts) _ (dot_read ts)
    (λ dot a. every_bind (name_at dot.1) _ (name_read dot.1)
    (λ field b. every_some (a ∙ ap (λ l. token (kind.Mark mark.Dot) dot.0 ∷ l) b)))

pub switches_of_member : (on : Word) (dot : Span) (field : Word) → switches_of_piece (piece.Member on dot field) ≡ []
switches_of_member on dot field = ap switches_of_piece (sym (piece.rolls-Member on dot field)) ∙ fold-roll-Piece (List (List Word)) (Word × List (List Word)) switches_step (λ c. (c.head.word, each c.body)) (P.Member on dot field)

switches_of_behind : (dot : Span) (field : Word) → switches_of_piece (piece.Behind dot field) ≡ []
switches_of_behind dot field = ap switches_of_piece (sym (piece.rolls-Behind dot field)) ∙ fold-roll-Piece (List (List Word)) (Word × List (List Word)) switches_step (λ c. (c.head.word, each c.body)) (P.Behind dot field)

pub switches_of_plain : (t : Token) → switches_of_piece (piece.Plain t) ≡ []
switches_of_plain t = ap switches_of_piece (sym (piece.rolls-Plain t)) ∙ fold-roll-Piece (List (List Word)) (Word × List (List Word)) switches_step (λ c. (c.head.word, each c.body)) (P.Plain t)

-- the piece at the front of these tokens is the tokens before the rest, without types and switches
record Stands (ts : List Token) (p : Piece) (rest : List Token) : Type 0 where
  split : ts ≡ branched_piece [] p [] ++ rest
  less : suc (length rest) ≤ length ts
  types : types_of_piece p ≡ []
  switches : switches_of_piece p ≡ []
  plain : are_plain rest ≡ true

tail_plain : (t : Token) (ts : List Token) → are_plain (t ∷ ts) ≡ true → are_plain ts ≡ true
tail_plain t ts h = (both_true (is_plain t.kind) _ h).1

plain_stands : (t : Token) (ts : List Token) → are_plain ts ≡ true → Stands (t ∷ ts) (piece.Plain t) ts
plain_stands t ts h = record {
  split = ap (λ (f : List Inside → Tokens). f [] ++ ts) (sym (plain_is [] t));
  less = omega arith;
  types = types_of_plain t;
  switches = switches_of_plain t;
  plain = h;
}

kept : (x f : List ℕ) → member_name [] [] x f ≡ f
unfolding member_name innermost
kept x f = refl

member_stands : (t : Token) (ts : List Token) (x : List ℕ) → t.kind ≡ kind.Word x → are_plain ts ≡ true → (o : Option (Span × (Word × List Token))) → Every (λ r. ts ≡ token (kind.Mark mark.Dot) r.0 ∷ (token (kind.Word r.1.0.name) r.1.0.span ∷ r.1.1)) o → Stands (t ∷ ts) (member t ts x o).0 (member t ts x o).1
member_stands t ts x k h None e = plain_stands t ts h
member_stands t ts x k h (Some s) e =
    let is : ts ≡ token (kind.Mark mark.Dot) s.0 ∷ (token (kind.Word s.1.0.name) s.1.0.span ∷ s.1.1) = e.each s refl in
    let on : Word = record { name = x; span = t.span } in
    record {
      split = (λ i. as_is t (kind.Word x) k i ∷ is i) ∙ sym (ap (λ (f : List Inside → Tokens). f [] ++ s.1.1) (member_is [] on s.0 s.1.0) ∙ ap (λ y. token (kind.Word x) t.span ∷ (token (kind.Mark mark.Dot) s.0 ∷ (token (kind.Word y) s.1.0.span ∷ s.1.1))) (kept x s.1.0.name));
      less = omega (arith, ap length is);
      types = types_of_member on s.0 s.1.0;
      switches = switches_of_member on s.0 s.1.0;
      plain = tail_plain (token (kind.Word s.1.0.name) s.1.0.span) s.1.1 (tail_plain (token (kind.Mark mark.Dot) s.0) (token (kind.Word s.1.0.name) s.1.0.span ∷ s.1.1) (ap are_plain (sym is) ∙ h));
    }

behind_stands : (t : Token) (ts : List Token) → t.kind ≡ kind.Mark mark.Dot → are_plain ts ≡ true → (o : Option (Word × List Token)) → Every (λ r. ts ≡ token (kind.Word r.0.name) r.0.span ∷ r.1) o → Stands (t ∷ ts) (behind t ts o).0 (behind t ts o).1
behind_stands t ts k h None e = plain_stands t ts h
behind_stands t ts k h (Some f) e =
    let is : ts ≡ token (kind.Word f.0.name) f.0.span ∷ f.1 = e.each f refl in
    record {
      split = (λ i. as_is t (kind.Mark mark.Dot) k i ∷ is i) ∙ sym (ap (λ (g : List Inside → Tokens). g [] ++ f.1) (behind_is [] t.span f.0));
      less = omega (arith, ap length is);
      types = types_of_behind t.span f.0;
      switches = switches_of_behind t.span f.0;
      plain = tail_plain (token (kind.Word f.0.name) f.0.span) f.1 (ap are_plain (sym is) ∙ h);
    }

front_stands : (t : Token) (ts : List Token) → are_plain (t ∷ ts) ≡ true → Stands (t ∷ ts) (plain_at t ts).0 (plain_at t ts).1
unfolding plain_at
front_stands t ts h = go t.kind refl
  where
    go : (k : Kind) → t.kind ≡ k → Stands (t ∷ ts) (plain_kind t ts k).0 (plain_kind t ts k).1
    go (kind.Word x) e = member_stands t ts x e (tail_plain t ts h) (selected_at ts) (selected_read ts)
    go (kind.Mark mark.Dot) e = behind_stands t ts e (tail_plain t ts h) (name_at ts) (name_read ts)
    go _ e = plain_stands t ts (tail_plain t ts h)

is_front : (inner : List Token → Found (List Piece)) (t : Token) (ts : List Token) → is_plain t.kind ≡ true → piece_at inner t ts ≡ (Ok (plain_at t ts).0, (plain_at t ts).1)
unfolding piece_at ok_plain
is_front inner t ts h = go t.kind h
  where
    go : (k : Kind) → is_plain k ≡ true → piece_kind inner t ts k ≡ (Ok (plain_at t ts).0, (plain_at t ts).1)
    go (kind.Key key.Adt) h = cc
    go (kind.Key key.Switch) h = cc
    go (kind.Key key.Case) h = cc
    go _ h = refl

-- the pieces behind those so far
record Pieces (left : ℕ) (so_far : List Piece) (ts : List Token) : Type 0 where
  pieces : List Piece
  read : pieces_from left so_far ts ≡ Ok (so_far ++ pieces)
  same : branched [] [] pieces ≡ ts
  types : types_in pieces ≡ []
  switches : switches_in pieces ≡ []

no_pieces : (left : ℕ) (so_far : List Piece) → pieces_from left so_far [] ≡ Ok so_far → Pieces left so_far []
no_pieces left so_far e = record { pieces = []; read = e ∙ ap Ok (sym (append-nil so_far)); same = refl; types = refl; switches = refl }

all_pieces : (left : ℕ) (so_far : List Piece) (ts : List Token) → are_plain ts ≡ true → length ts ≤ left → Pieces left so_far ts
unfolding pieces_from
all_pieces zero so_far [] h l = no_pieces zero so_far refl
all_pieces (suc left) so_far [] h l = no_pieces (suc left) so_far refl
all_pieces zero so_far (t ∷ ts) h l = absurd (omega (arith, l))
all_pieces (suc left) so_far (t ∷ ts) h l =
    let s = front_stands t ts h in
    let p = (plain_at t ts).0 in
    let rest = (plain_at t ts).1 in
    let r = all_pieces left (so_far ++ p ∷ []) rest s.plain (omega (arith, s.less, l)) in
    record {
      pieces = p ∷ r.pieces;
      read =
          ap (λ (q : Found Piece × List Token). with_piece (pieces_from left) so_far q.0 q.1) (is_front (pieces_from left []) t ts (both_true (is_plain t.kind) _ h).0)
          ∙ r.read ∙ ap Ok (append_assoc so_far (p ∷ []) r.pieces);
      same = ap (λ l. branched_piece [] p [] ++ l) r.same ∙ sym s.split;
      types = (λ i. s.types i ++ r.types i);
      switches = (λ i. s.switches i ++ r.switches i);
    }

-- No variant is known, so nothing is built

abbrev IsOther : Before → Type 0
IsOther (before.Variant v) = ⊥
IsOther _ = Unit {0}

none_named : (o : Option (List ℕ)) → option_and_then (variant_named []) o ≡ None
unfolding variant_named
none_named None = refl
none_named (Some x) = refl

none_new : (b : Before) (x : List ℕ) (after : List Token) → behind_new [] b x after ≡ None
unfolding behind_new variant_named
none_new before.New x after = go (mark_ahead mark.OpenParen after)
  where
    go : (c : Bool) → (if c then variant_named [] x else None) ≡ None
    go true = refl
    go false = refl
none_new before.Other x after = refl
none_new (before.Variant v) x after = refl

set_stays : (lists : Lists) (x : List ℕ) (after : List Token) → set_name [] lists x after ≡ x
unfolding set_name
set_stays lists x after = go (mark_ahead mark.Assign after)
  where
    go : (c : Bool) → (if c then or_name x (option_and_then (λ k. made_field k x) (option_and_then (variant_named []) (innermost_list lists))) else x) ≡ x
    go true = ap (λ (o : Option Known). or_name x (option_and_then (λ k. made_field k x) o)) (none_named (innermost_list lists))
    go false = refl

token_stays : (b : Before) (lists : Lists) (t : Token) (after : List Token) → IsOther b → token_built [] b lists t after ≡ t ∷ []
unfolding token_built
token_stays b lists t after h = go t.kind refl
  where
    paren : (b : Before) → IsOther b → opening [] b t.span after ≡ token (kind.Mark mark.OpenParen) t.span ∷ []
    paren before.Other h = refl
    paren before.New h = refl
    paren (before.Variant v) h = absurd h

    go : (k : Kind) → t.kind ≡ k → token_kind [] b lists t after k ≡ t ∷ []
    go (kind.Word x) e =
        ap (λ (o : Option Known). token (kind.Word (new_name [] lists x after o)) t.span ∷ []) (none_new b x after)
        ∙ ap (λ y. token (kind.Word y) t.span ∷ []) (set_stays lists x after)
        ∙ ap (λ z. z ∷ []) (sym (as_is t (kind.Word x) e))
    go (kind.Mark mark.OpenParen) e = paren b h ∙ ap (λ z. z ∷ []) (sym (as_is t (kind.Mark mark.OpenParen) e))
    go _ e = refl

next_other : (b : Before) (t : Token) (after : List Token) → IsOther (next_before [] b t after)
unfolding next_before
next_other b t after = go t.kind
  where
    go : (k : Kind) → IsOther (before_kind [] b after k)
    go (kind.Word x) = subst (λ (o : Option Known). IsOther (variant_before x o)) (sym (none_new b x after)) tt
    go (kind.Key key.New) = tt
    go _ = tt

built_stays : (b : Before) (lists : Lists) (ts : List Token) → IsOther b → built_from [] b lists ts ≡ ts
unfolding built_from
built_stays b lists [] h = refl
built_stays b lists (t ∷ ts) h = λ i. token_stays b lists t ts h i ++ built_stays (next_before [] b t ts) (next_lists b lists t) ts (next_other b t ts) i

pub stays : PlainTextsStay
unfolding lowered pieces_of first_again
stays ts h =
    let p = all_pieces (length ts) [] ts h (omega arith) in
    let none : lowered_pieces (Ok p.pieces) ≡ or_plain [] p.pieces (fault_of [] []) = (λ i. or_plain (p.types i) p.pieces (fault_of (p.types i) (p.switches i))) in
    let same : branched [] [] p.pieces ≡ ts = p.same in
    ap lowered_pieces p.read ∙ none
    ∙ ap (λ l. Ok (record { tokens = built_from [] before.Other [] l; types = [] })) same
    ∙ ap (λ l. Ok (record { tokens = l; types = [] })) (built_stays before.Other [] ts tt)
