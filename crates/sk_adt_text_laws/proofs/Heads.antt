-- Where the tokens of a tree hold the head of an algebraic struct, the tree has that struct, and its first field is the tag.
use Rattle.std.proofs.Common.{◌≡◌, ◌⊎◌, inl, inr, ℕ, suc, true, false, List, [], ◌∷◌, ◌++◌, Contains, codes, refl, sym, ap, ◌∙◌, arith}
use Rattle.std.specs.Prelude.{flat_map}
use Rattle.std.specs.List.{list_all}
use Rattle.std.proofs.lemmas.List.{map-append, append-nil}
use Rattle.std.proofs.lemmas.List.Folds.{list_all-map}
use Rattle.sk_tree.specs.declared.token.Token.{Token}
use Rattle.sk_tree.specs.declared.token.Kind.{Kind}
use Rattle.sk_tree.specs.declared.token.Kind.TheVariants as kind
use Rattle.sk_tree.specs.declared.token.Mark.TheVariants as mark
use Rattle.sk_tree.specs.declared.token.Key.TheVariants as key
use Rattle.sk_tree.specs.declared.pattern.Pattern.{Pattern}
use Rattle.sk_tree.specs.declared.expr.Expr.{Expr}
use Rattle.sk_tree.specs.declared.item.Base.{Base}
use Rattle.sk_tree.specs.declared.item.Base.TheVariants as base
use Rattle.sk_tree.specs.declared.item.Field.{Field}
use Rattle.sk_tree.specs.declared.item.Item.{Item}
use Rattle.sk_tree.specs.declared.item.Item.TheVariants as item
use Rattle.sk_tree.specs.declared.item.Tree.{Tree}
use Rattle.sk_tree.specs.Phrase.{Each}
use Rattle.sk_tree.specs.Patterns.{Patterns, field_patterns, item_patterns, patterns_of}
use Rattle.sk_tree.specs.Spelt.{SpeltField, SpeltItem}
use Rattle.sk_tree.specs.Spell.{Kinds, spell_item}
use Rattle.sk_tree.proofs.Says.{kinds}
use Rattle.sk_tree.proofs.KindLaws.{tree_says}
use Rattle.sk_parser.specs.Parses.{IsTreeOf}
use Rattle.sk_types_laws.proofs.Ats.{both_true}
use Rattle.sk_adt_laws.specs.Heads.{head, HasHead}
use Rattle.sk_adt_text_laws.proofs.Others.{is_other, others, then, one, sign, word, Clean, expr_free}
use Rattle.sk_adt_text_laws.proofs.Bodies.{Held, halves, each_free, field_free, fun_free}

abbrev struct : Kind
struct = kind.Key key.Struct

quiet : (ts : List Token) → others ts ≡ true → list_all is_other (kinds ts) ≡ true
quiet ts h = list_all-map is_other (λ (t : Token). t.kind) ts ∙ h

-- a `struct` that stands behind these does so in what follows
skip : (ks ls front rest : Kinds) → list_all is_other ks ≡ true → ks ++ ls ≡ front ++ (struct ∷ rest) → (more : Kinds) × (ls ≡ more ++ (struct ∷ rest))
skip [] ls front rest h e = (front, e)
skip (k ∷ ks) ls [] rest h e =
    let same : k ≡ struct = cc in
    let no : false ≡ true = ap is_other (sym same) ∙ (both_true (is_other k) (list_all is_other ks) h).0 in
    absurd (cc)
skip (k ∷ ks) ls (f ∷ front) rest h e = skip ks ls front rest (both_true (is_other k) (list_all is_other ks) h).1 (cc)

-- a struct of this name whose first field is the tag
abbrev pub tag_field : Field
tag_field = record { ty = record { base = base.Int; lengths = [] }; name = codes "tag" }

abbrev pub IsTagged : List ℕ → Item → Type 0
IsTagged x (item.Struct y (f ∷ fs)) = (y ≡ x) × (f ≡ tag_field)
IsTagged x _ = ⊥

abbrev pub AnyTagged : List ℕ → List Item → Type 0
AnyTagged x [] = ⊥
AnyTagged x (i ∷ is) = IsTagged x i ⊎ AnyTagged x is

module _ (x : List ℕ) (back : Kinds) where
  begins : (y : List ℕ) (b : Base) (ls : List Expr) (n : List ℕ) (fs : List Field) (ks : Kinds) →
      spell_item (item.Struct y (record { ty = record { base = b; lengths = ls }; name = n } ∷ fs)) ++ ks ≡ head x ++ back
      → IsTagged x (item.Struct y (record { ty = record { base = b; lengths = ls }; name = n } ∷ fs))
  begins y base.Int [] n fs ks e =
      let same : y ≡ x = cc in
      let tag : n ≡ codes "tag" = cc in
      (same, ap (λ z. record { ty = record { base = base.Int; lengths = [] }; name = z }) tag)
  begins y base.Int (l ∷ ls) n fs ks e = cc
  begins y base.Bit ls n fs ks e = cc
  begins y (base.Named z) ls n fs ks e = cc

  found : (y : List ℕ) (fs : List Field) (ks : Kinds) → spell_item (item.Struct y fs) ++ ks ≡ head x ++ back → IsTagged x (item.Struct y fs)
  found y [] ks e = cc
  found y (f ∷ fs) ks e = begins y (f.ty).base (f.ty).lengths f.name fs ks e

spelled : (i : Item) (ts : List Token) → SpeltItem i ts → kinds ts ≡ spell_item i
spelled i ts h = tree_says (record { items = i ∷ [] }) ts (ts, [], sym (append-nil ts), h, refl) ∙ append-nil (spell_item i)

module _ (x : List ℕ) (back : Kinds) where
  abbrev Again : List Item → Kinds → Type 0
  Again is ks = (front : Kinds) → ks ≡ front ++ (head x ++ back) → AnyTagged x is

  behind : (i : Item) (is : List Item) (ts : List Token) (ks front : Kinds) → others ts ≡ true → Again is ks → kinds ts ++ ks ≡ front ++ (head x ++ back) → AnyTagged x (i ∷ is)
  behind i is ts ks front h again e = let s = skip (kinds ts) ks front _ (quiet ts h) e in inr (again s.0 s.1)

  struct_step : (y : List ℕ) (fs : List Field) (is : List Item) (ts : List Token) (ks front : Kinds) → Held (item_patterns (item.Struct y fs)) → SpeltItem (item.Struct y fs) ts → Again is ks → kinds ts ++ ks ≡ front ++ (head x ++ back) → AnyTagged x (item.Struct y fs ∷ is)
  struct_step y fs is ts ks [] c h again e = inl (found x back y fs ks (ap (λ ls. ls ++ ks) (sym (spelled (item.Struct y fs) ts h)) ∙ e))
  struct_step y fs is ts ks (f ∷ front) c (us, vs, split, (s, first), rest) again e =
      let free : others vs ≡ true = (then (word y) (then (sign mark.OpenBrace) (then (each_free SpeltField field_patterns field_free fs c) (sign mark.CloseBrace)))).free vs rest in
      let is_ts : kinds ts ≡ struct ∷ kinds vs = ap kinds split ∙ ap (λ z. kinds (z ++ vs)) first in
      let all : struct ∷ (kinds vs ++ ks) ≡ f ∷ (front ++ (head x ++ back)) = ap (λ z. z ++ ks) (sym is_ts) ∙ e in
      behind (item.Struct y fs) is vs ks front free again (cc)

  item_step : (i : Item) (is : List Item) (ts : List Token) (ks front : Kinds) → Held (item_patterns i) → SpeltItem i ts → Again is ks → kinds ts ++ ks ≡ front ++ (head x ++ back) → AnyTagged x (i ∷ is)
  item_step (item.Struct y fs) is ts ks front c h again e = struct_step y fs is ts ks front c h again e
  item_step (item.Pragma y text) is ts ks front c h again e =
      behind (item.Pragma y text) is ts ks front ((then (one (kind.Key key.Pragma) refl) (then (word y) (then (one (kind.Text text) refl) (sign mark.Semicolon)))).free ts h) again e
  item_step (item.Const y value) is ts ks front c h again e =
      behind (item.Const y value) is ts ks front ((then (one (kind.Key key.Int) refl) (then (word y) (then (sign mark.Assign) (then (expr_free value c) (sign mark.Semicolon))))).free ts h) again e
  item_step (item.Fun f) is ts ks front c h again e = behind (item.Fun f) is ts ks front ((fun_free f c).free ts h) again e

  items_tagged : (is : List Item) (ts : List Token) → Held (flat_map item_patterns is) → Each SpeltItem is ts → Again is (kinds ts)
  items_tagged [] ts c h [] e = let no : [] ≡ head x ++ back = ap kinds (sym h) ∙ e in cc
  items_tagged [] ts c h (f ∷ front) e = let no : [] ≡ f ∷ (front ++ (head x ++ back)) = ap kinds (sym h) ∙ e in cc
  items_tagged (i ∷ is) ts c (us, vs, split, first, more) front e =
      let r = halves (item_patterns i) (flat_map item_patterns is) c in
      item_step i is us (kinds vs) front r.0 first (items_tagged is vs r.1 more) (sym (map-append (λ (t : Token). t.kind) us vs) ∙ ap kinds (sym split) ∙ e)

all_clean : (ps : Patterns) → ((p : Pattern) → Contains ps p → Clean p) → Held ps
all_clean [] h = tt
all_clean (p ∷ ps) h = (h p (0, omega arith, refl), all_clean ps (λ q c. h q (suc c.0, omega (arith, c.1), c.2)))

pub tree_tagged : (tokens : List Token) (tree : Tree) (x : List ℕ) → IsTreeOf tokens tree → HasHead tokens x → AnyTagged x tree.items
tree_tagged tokens tree x is h =
    items_tagged x h.back tree.items tokens (all_clean (patterns_of tree) (λ p c. record { few = λ many. is.few (p, c, many); good = λ bad. is.good (p, c, bad) })) (is.reads).spelt h.front h.is
