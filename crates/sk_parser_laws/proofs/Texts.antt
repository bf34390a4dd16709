-- The trees of a pattern node in a text are those that spelling asks for; so expressions of a text are read exactly.
use Rattle.std.proofs.Common.{◌≡◌, ℕ, zero, suc, ◌<◌, Bool, true, false, ◌&&◌, leb, List, [], ◌∷◌, ◌++◌, length, Contains, inl, inr, slice_index_or, Option, Some, None, refl, sym, ap, ◌∙◌, subst, arith, append-nil, append_assoc, if◌then◌else◌}
use Rattle.std.specs.List.{AllZip}
use Rattle.std.proofs.lemmas.Bool.{leb-true, leb-false, le-leb, lt-leb}
use Rattle.sk_tree.specs.declared.token.Token.{Token}
use Rattle.sk_tree.specs.declared.token.Mark.TheVariants as mark
use Rattle.sk_tree.specs.declared.pattern.Pattern.{Pattern}
use Rattle.sk_tree.specs.declared.expr.Expr.{Expr}
use Rattle.sk_tree.specs.Phrase.{Sign, ◌▸◌}
use Rattle.sk_tree.specs.Strings.{strings_of}
use Rattle.sk_tree.specs.Spelt.{AsChoice, SpeltPart, SpeltPattern, ReadsString, ReadsNot, Holds}
use Rattle.sk_tree.proofs.Layers.{ExprBy}
use Rattle.sk_parser_laws.specs.declared.pieces.Deep.{Deep}
use Rattle.sk_parser_laws.specs.Readers.{◌>>=◌, mark_ahead}
use Rattle.sk_parser_laws.specs.ExprReader.{ends_chain, ends_base, expr_at}
use Rattle.sk_parser_laws.specs.StringReader.{all_read, no_trees, string_at, strings_at, or_nothing, trees_of, offers}
use Rattle.sk_parser_laws.proofs.Loops.{bind_ok}
use Rattle.sk_parser_laws.proofs.ExprSound.{GoodTrees, Found, SoundByLevel, expr_sound}
use Rattle.sk_parser_laws.proofs.Offers.{Silent, silent_trees, silent_sound, lax_trees}
use Rattle.sk_parser_laws.proofs.Complete.{bind_is, if_yes, if_no}
use Rattle.sk_parser_laws.proofs.ExprComplete.{Stops, Complete, expr_complete}

silent_offers : (p : Pattern) (es : List Expr) (ts : List Token) → Silent p es ts → (no_trees p ≡ Some es) × (Sign mark.OpenPattern ▸ SpeltPart p AsChoice ▸ Sign mark.ClosePattern) ts
silent_offers p es ts h = absurd h

silent : (e : Expr) → Complete Silent no_trees silent_trees silent_offers e
silent = expr_complete Silent no_trees silent_trees silent_offers

-- nothing goes on behind the end of the tokens
pub stops_end : (level : ℕ) → Stops level []
unfolding ends_chain ends_base mark_ahead
stops_end level = record { chain = refl; base = refl; uncalled = refl; question = off (leb 13 level) }
  where
    off : (b : Bool) → (b && false) ≡ false
    off true = refl
    off false = refl

string_read : (s : List Token) (t : Expr) → ReadsString s t → string_at s ≡ Some t
unfolding string_at
string_read s t r =
    bind_is (expr_at no_trees 256 13 s) _
    (ap (expr_at no_trees 256 13) (sym (append-nil s)) ∙ (silent t).whole 256 13 s [] (record { spelt = r.spelt; placed = r.placed; within = r.within; level_is = (silent t).low }) (stops_end 13)) refl

string_found : (s : List Token) (t : Expr) → string_at s ≡ Some t → ReadsString s t
unfolding string_at
string_found s t e =
    let x = bind_ok (expr_at no_trees 256 13 s) _ _ e in
    ended x.0.0 x.0.1 (((silent_sound 256).sound 13 s (omega arith)).each x.0 x.1) x.2
  where
    ended : (d : Deep) (rest : List Token) → Found Silent 256 13 s d rest → all_read d.expr rest ≡ Some t → ReadsString s t
    ended d [] f e =
        let same : d.expr ≡ t = cc in
        subst (ReadsString s) same (record {
          spelt = subst (ExprBy Silent d.expr) (sym (f.of.seen.split ∙ append-nil f.of.seen.front)) f.of.seen.spelt;
          placed = f.of.placed;
          within = omega (arith, f.of.depth, f.of.within);
        })
    ended d (t' ∷ ts) f e = absurd (cc)

-- strings that were read, behind those before them
record Trees (ss : List (List Token)) (before es : List Expr) : Type 0 where
  more : List Expr
  is : es ≡ before ++ more
  each : AllZip ReadsString ss more

strings_found : (ss : List (List Token)) (before es : List Expr) → strings_at before ss ≡ Some es → Trees ss before es
unfolding strings_at
strings_found [] before es e = let same : before ≡ es = cc in record { more = []; is = sym same ∙ sym (append-nil before); each = tt }
strings_found (s ∷ ss) before es e =
    let x = bind_ok (string_at s) (λ t. strings_at (before ++ t ∷ []) ss) es e in
    let r = strings_found ss (before ++ x.0 ∷ []) es x.2 in
    record { more = x.0 ∷ r.more; is = r.is ∙ append_assoc before (x.0 ∷ []) r.more; each = (string_found s x.0 x.1, r.each) }

strings_read : (ss : List (List Token)) (before more : List Expr) → AllZip ReadsString ss more → strings_at before ss ≡ Some (before ++ more)
unfolding strings_at
strings_read [] before [] h = ap Some (sym (append-nil before))
strings_read [] before (m ∷ ms) h = absurd h
strings_read (s ∷ ss) before [] h = absurd h
strings_read (s ∷ ss) before (m ∷ ms) h =
    bind_is (string_at s) (λ t. strings_at (before ++ t ∷ []) ss) (string_read s m h.0) (strings_read ss (before ++ m ∷ []) ms h.1 ∙ ap Some (append_assoc before (m ∷ []) ms))

-- one of the strings does not read
abbrev OneBad : List (List Token) → Type 0
OneBad ss = (string : List Token) × Contains ss string × ReadsNot string

pub one_bad : (ss : List (List Token)) (before : List Expr) → strings_at before ss ≡ None → OneBad ss
unfolding strings_at
one_bad [] before e = absurd (cc)
one_bad (s ∷ ss) before e = go (λ t f. one_bad ss (before ++ t ∷ []) f) (string_at s) refl e
  where
    go : ((t : Expr) → strings_at (before ++ t ∷ []) ss ≡ None → OneBad ss) → (o : Option Expr) → string_at s ≡ o → (o >>= λ t. strings_at (before ++ t ∷ []) ss) ≡ None → OneBad (s ∷ ss)
    go again None is e = (s, (0, omega arith, refl), λ t r. let bad : None ≡ Some t = sym is ∙ string_read s t r in absurd (cc))
    go again (Some t) is e = let r = again t e in (r.0, (suc r.1.0, omega (arith, r.1.1), r.1.2), r.2)

pub bad_none : (ss : List (List Token)) (before : List Expr) (string : List Token) (k : ℕ) → k < length ss → slice_index_or ss k string ≡ string → ReadsNot string → strings_at before ss ≡ None
unfolding strings_at
bad_none [] before string k h e bad = absurd (omega arith)
bad_none (s ∷ ss) before string zero h e bad = go (string_at s) refl
  where
    go : (o : Option Expr) → string_at s ≡ o → (o >>= λ t. strings_at (before ++ t ∷ []) ss) ≡ None
    go None is = refl
    go (Some t) is = absurd (bad t (subst (λ u. ReadsString u t) e (string_found s t is)))
bad_none (s ∷ ss) before string (suc k) h e bad = go (λ t. bad_none ss (before ++ t ∷ []) string k (omega arith) e bad) (string_at s)
  where
    go : ((t : Expr) → strings_at (before ++ t ∷ []) ss ≡ None) → (o : Option Expr) → (o >>= λ t. strings_at (before ++ t ∷ []) ss) ≡ None
    go again None = refl
    go again (Some t) = again t

offer_holds : (p : Pattern) → Holds p (trees_of p)
unfolding trees_of
offer_holds p = go (leb (length (strings_of p)) 128) refl (strings_at [] (strings_of p)) refl
  where
    go : (b : Bool) → leb (length (strings_of p)) 128 ≡ b → (o : Option (List Expr)) → strings_at [] (strings_of p) ≡ o → Holds p (if b then or_nothing o else [])
    go false h o is = inr (inl (leb-false (length (strings_of p)) 128 h), refl)
    go true h None is = inr (inr (one_bad (strings_of p) [] is), refl)
    go true h (Some es) is =
        let r = strings_found (strings_of p) [] es is in
        inl (record { few = leb-true (length (strings_of p)) 128 h; each = subst (AllZip ReadsString (strings_of p)) (sym r.is) r.each })

holds_trees : (p : Pattern) (es : List Expr) → Holds p es → trees_of p ≡ es
unfolding trees_of
holds_trees p es (inl h) = if_yes (leb (length (strings_of p)) 128) (or_nothing (strings_at [] (strings_of p))) [] (le-leb (length (strings_of p)) 128 h.few) (ap or_nothing (strings_read (strings_of p) [] es h.each))
holds_trees p es (inr (inl many, is)) = if_no (leb (length (strings_of p)) 128) (or_nothing (strings_at [] (strings_of p))) [] (lt-leb (length (strings_of p)) 128 many) (sym is)
holds_trees p es (inr (inr bad, is)) = go (leb (length (strings_of p)) 128)
  where
    go : (b : Bool) → (if b then or_nothing (strings_at [] (strings_of p)) else []) ≡ es
    go true = ap or_nothing (bad_none (strings_of p) [] bad.0 bad.1.0 bad.1.1 bad.1.2 bad.2) ∙ sym is
    go false = sym is

pub text_trees : GoodTrees SpeltPattern (offers true)
unfolding offers
text_trees = record {
  spelt = λ p es ts rest e f.
      let same : trees_of p ≡ es = cc in
      record { front = f.front; split = f.split; spelt = (subst (Holds p) same (offer_holds p), f.spelt) };
  placed = λ p es e. (lax_trees true).placed p es e;
}

pub text_offers : (p : Pattern) (es : List Expr) (ts : List Token) → SpeltPattern p es ts → (offers true p ≡ Some es) × (Sign mark.OpenPattern ▸ SpeltPart p AsChoice ▸ Sign mark.ClosePattern) ts
unfolding offers
text_offers p es ts h = (ap Some (holds_trees p es h.0), h.1)

-- What is read of a text is spelt so, stands as it may, and is as deep as it is said.
pub text_sound : (b : ℕ) → SoundByLevel SpeltPattern b (expr_at (offers true) b)
text_sound b = expr_sound SpeltPattern (offers true) text_trees b

-- What an expression of a text is spelt by is read as that expression.
pub text_complete : (e : Expr) → Complete SpeltPattern (offers true) text_trees text_offers e
text_complete = expr_complete SpeltPattern (offers true) text_trees text_offers
