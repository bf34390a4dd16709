-- The pattern of a choice of strings: tokens of the kinds that spell it are found to spell one with the same strings.
use Rattle.std.proofs.Common.{◌≡◌, ◌≤◌, true, ◌&&◌, List, [], ◌∷◌, ◌++◌, map, map-id, length, refl, sym, ap, ◌∙◌, subst, arith, inl, suc}
use Rattle.std.specs.Prelude.{nat_le, flat_map}
use Rattle.std.specs.List.{list_all, AllZip}
use Rattle.std.proofs.lemmas.Bool.{and_parts}
use Rattle.std.proofs.lemmas.Bool.Decides.{nat_tests}
use Rattle.sk_base.specs.declared.span.Span.{Span}
use Rattle.sk_tree.specs.declared.token.Token.{Token}
use Rattle.sk_tree.specs.declared.token.Kind.{Kind}
use Rattle.sk_tree.specs.declared.token.Mark.TheVariants as mark
use Rattle.sk_tree.specs.declared.pattern.Pattern.{Pattern}
use Rattle.sk_tree.specs.declared.pattern.Pattern.TheVariants as pattern
use Rattle.sk_tree.specs.declared.pattern.Pattern.TheOpen as P
use Rattle.sk_tree.specs.declared.pattern.Pattern.TheViews.{roll-Pattern}
use Rattle.sk_tree.specs.declared.pattern.Pattern.TheFolds.{map-Pattern, fold-roll-Pattern}
use Rattle.sk_tree.specs.declared.expr.Expr.{Expr}
use Rattle.sk_tree.specs.declared.expr.EForm.TheVariants as eform
use Rattle.sk_tree.specs.declared.expr.EForm.TheOpen as E
use Rattle.sk_tree.specs.Phrase.{Phrase, Never, Sign, Each, Between}
use Rattle.sk_tree.specs.Strings.{Strings, most_strings, pairs, rows, pattern_strings, strings_of}
use Rattle.sk_tree.specs.Depth.{expr_depth, most_levels}
use Rattle.sk_tree.specs.Placed.{expr_placed}
use Rattle.sk_tree.specs.Spelt.{Saying, PatternRole, AsChoice, AsSequence, AsPart, may_stand, are_some, SpeltPart, SpeltPattern, ReadsString, Holds}
use Rattle.sk_tree.specs.Spell.{spell_expr}
use Rattle.sk_tree.proofs.Says.{between_map}
use Rattle.sk_tree.proofs.Layers.{PartLayer, part_spelt}
use Rattle.sk_types_rules.specs.Erase.{nowhere, at}
use Rattle.sk_print.proofs.Lexed.{kinds}
use Rattle.sk_print_laws.specs.Printed.{part_of_kind, sequence_of, choice_of}
use Rattle.sk_print_laws.specs.SpanlessTree.{part_spanless, spanless_pattern, spanless_expr}
use Rattle.sk_print_laws.specs.Readable.{kinds_stand, tree_stands}
use Rattle.sk_print_laws.proofs.Finds.{Finds, finds_then, finds_sign, Match, All, finds_between}
use Rattle.sk_print_laws.proofs.Respelt.{Alike, Said, made}
use Rattle.sk_print_laws.proofs.Spanless.{place_alike, depth_alike}
use Rattle.sk_print_laws.proofs.Spelled.{pattern_spelled}

-- no pattern stands in a string
abbrev pub NoPattern : Saying
NoPattern pattern strings = Never

abbrev one_of : Token → Pattern
one_of t = roll-Pattern (P.One t)

abbrev pub seq_of : List Token → Pattern
seq_of ts = roll-Pattern (P.Seq (map one_of ts))

abbrev Found : Type 0
Found = List Token × Expr

abbrev pattern_of : List Found → Pattern
pattern_of qs = roll-Pattern (P.Choice (map (λ (q : Found). seq_of q.0) qs))

-- Without spans

spanless_of : (l : P.Pattern-F Pattern) → spanless_pattern (roll-Pattern l) ≡ part_spanless (map-Pattern Pattern Pattern spanless_pattern l)
spanless_of l = fold-roll-Pattern Pattern part_spanless l

abbrev kind_part : Kind → Pattern
kind_part k = roll-Pattern (P.One (record { kind = k; span = nowhere }))

abbrev kind_seq : List Kind → Pattern
kind_seq ks = roll-Pattern (P.Seq (map kind_part ks))

ones_off : (ts : List Token) → map spanless_pattern (map one_of ts) ≡ map kind_part (kinds ts)
ones_off [] = refl
ones_off (t ∷ ts) = λ i. spanless_of (P.One t) i ∷ ones_off ts i

seq_off : (ts : List Token) → spanless_pattern (seq_of ts) ≡ kind_seq (kinds ts)
seq_off ts = spanless_of (P.Seq (map one_of ts)) ∙ ap (λ ps. roll-Pattern (P.Seq ps)) (ones_off ts)

part_off : (k : Kind) → spanless_pattern (part_of_kind k) ≡ kind_part k
part_off k = ap spanless_pattern (sym (pattern.rolls-One (record { kind = k; span = nowhere }))) ∙ spanless_of (P.One (record { kind = k; span = nowhere }))

parts_off : (ks : List Kind) → map spanless_pattern (map part_of_kind ks) ≡ map kind_part ks
parts_off [] = refl
parts_off (k ∷ ks) = λ i. part_off k i ∷ parts_off ks i

sequence_off : (e : Expr) → spanless_pattern (sequence_of e) ≡ kind_seq (spell_expr e)
sequence_off e = ap spanless_pattern (sym (pattern.rolls-Seq (map part_of_kind (spell_expr e)))) ∙ spanless_of (P.Seq (map part_of_kind (spell_expr e))) ∙ ap (λ ps. roll-Pattern (P.Seq ps)) (parts_off (spell_expr e))

-- what is found of a string: its tokens, and the tree that they read as
abbrev StringFound : Expr → Found → Type 0
StringFound e q = (kinds q.0 ≡ spell_expr e) × ReadsString q.0 q.1 × Alike e q.1

seqs_off : (es : List Expr) (qs : List Found) → Match StringFound es qs → map spanless_pattern (map (λ (q : Found). seq_of q.0) qs) ≡ map spanless_pattern (map sequence_of es)
seqs_off [] [] h = refl
seqs_off (e ∷ es) (q ∷ qs) h = λ i. (seq_off q.0 ∙ ap kind_seq h.0.0 ∙ sym (sequence_off e)) i ∷ seqs_off es qs h.1 i
seqs_off [] (q ∷ qs) h = absurd h
seqs_off (e ∷ es) [] h = absurd h

pattern_off : (es : List Expr) (qs : List Found) → Match StringFound es qs → spanless_pattern (pattern_of qs) ≡ spanless_pattern (choice_of es)
pattern_off es qs h =
    spanless_of (P.Choice (map (λ (q : Found). seq_of q.0) qs))
    ∙ ap (λ ps. roll-Pattern (P.Choice ps)) (seqs_off es qs h)
    ∙ sym (spanless_of (P.Choice (map sequence_of es)))
    ∙ ap spanless_pattern (pattern.rolls-Choice (map sequence_of es))

trees_off : (es : List Expr) (qs : List Found) → Match StringFound es qs → map spanless_expr (map (λ (q : Found). q.1) qs) ≡ map spanless_expr es
trees_off [] [] h = refl
trees_off (e ∷ es) (q ∷ qs) h = λ i. h.0.2 i ∷ trees_off es qs h.1 i
trees_off [] (q ∷ qs) h = absurd h
trees_off (e ∷ es) [] h = absurd h

-- Spelling

one_spelt : (t : Token) → may_stand t.kind ≡ true → SpeltPart (one_of t) AsPart (t ∷ [])
one_spelt t h = subst (λ (F : PatternRole → Phrase). F AsPart (t ∷ [])) (sym (part_spelt (P.One t))) (h, refl)

ones_spelt : (ts : List Token) → list_all may_stand (kinds ts) ≡ true → Each (λ p. SpeltPart p AsPart) (map one_of ts) ts
ones_spelt [] h = refl
ones_spelt (t ∷ ts) h =
    let p = and_parts (may_stand t.kind) (list_all may_stand (kinds ts)) h in
    (t ∷ [], ts, refl, one_spelt t p.0, ones_spelt ts p.1)

some_ones : (ts : List Token) → are_some (kinds ts) ≡ true → are_some (map one_of ts) ≡ true
some_ones [] h = cc
some_ones (t ∷ ts) h = refl

seq_spelt : (ts : List Token) → kinds_stand (kinds ts) ≡ true → SpeltPart (seq_of ts) AsSequence ts
seq_spelt ts h =
    let p = and_parts (are_some (kinds ts)) (list_all may_stand (kinds ts)) h in
    subst (λ (F : PatternRole → Phrase). F AsSequence ts) (sym (part_spelt (P.Seq (map one_of ts)))) (seq ts p.0 p.1)
  where
    seq : (ts : List Token) → are_some (kinds ts) ≡ true → list_all may_stand (kinds ts) ≡ true → PartLayer (P.Seq (map one_of ts)) AsSequence ts
    seq [] some stand = cc
    seq (t ∷ ts) some stand = (refl, ones_spelt (t ∷ ts) stand)

choice_spelt : (qs : List Found) (ts : List Token) → are_some qs ≡ true → Between (Sign mark.Bar) (λ (q : Found). SpeltPart (seq_of q.0) AsSequence) qs ts → SpeltPart (pattern_of qs) AsChoice ts
choice_spelt qs ts some h =
    let e = between_map (Sign mark.Bar) (λ p. SpeltPart p AsSequence) (λ (q : Found). seq_of q.0) qs in
    let g : Between (Sign mark.Bar) (λ p. SpeltPart p AsSequence) (map (λ (q : Found). seq_of q.0) qs) ts = subst (λ (Q : Phrase). Q ts) e h in
    subst (λ (F : PatternRole → Phrase). F AsChoice ts) (sym (part_spelt (P.Choice (map (λ (q : Found). seq_of q.0) qs)))) (choice qs some g)
  where
    choice : (qs : List Found) → are_some qs ≡ true → Between (Sign mark.Bar) (λ p. SpeltPart p AsSequence) (map (λ (q : Found). seq_of q.0) qs) ts → PartLayer (P.Choice (map (λ (q : Found). seq_of q.0) qs)) AsChoice ts
    choice [] some g = cc
    choice (q ∷ qs) some g = (refl, g)

-- Strings

one_string : (t : Token) → strings_of (one_of t) ≡ (t ∷ []) ∷ []
one_string t = fold-roll-Pattern Strings pattern_strings (P.One t)

ones_rows : (ts : List Token) → rows (map strings_of (map one_of ts)) ≡ ts ∷ []
ones_rows [] = refl
ones_rows (t ∷ ts) = λ i. pairs (one_string t i) (ones_rows ts i)

seq_strings : (ts : List Token) → strings_of (seq_of ts) ≡ ts ∷ []
seq_strings ts = fold-roll-Pattern Strings pattern_strings (P.Seq (map one_of ts)) ∙ ones_rows ts

seqs_strings : (qs : List Found) → flat_map (λ (s : Strings). s) (map strings_of (map (λ (q : Found). seq_of q.0) qs)) ≡ map (λ (q : Found). q.0) qs
seqs_strings [] = refl
seqs_strings (q ∷ qs) = λ i. seq_strings q.0 i ++ seqs_strings qs i

pattern_strings_are : (qs : List Found) → strings_of (pattern_of qs) ≡ map (λ (q : Found). q.0) qs
pattern_strings_are qs = fold-roll-Pattern Strings pattern_strings (P.Choice (map (λ (q : Found). seq_of q.0) qs)) ∙ seqs_strings qs

all_read : (es : List Expr) (qs : List Found) → Match StringFound es qs → AllZip ReadsString (map (λ (q : Found). q.0) qs) (map (λ (q : Found). q.1) qs)
all_read [] [] h = tt
all_read (e ∷ es) (q ∷ qs) h = (h.0.1, all_read es qs h.1)
all_read [] (q ∷ qs) h = absurd h
all_read (e ∷ es) [] h = absurd h

as_many : (es : List Expr) (qs : List Found) → Match StringFound es qs → length (map (λ (q : Found). q.0) qs) ≡ length es
as_many [] [] h = refl
as_many (e ∷ es) (q ∷ qs) h = ap suc (as_many es qs h.1)
as_many [] (q ∷ qs) h = absurd h
as_many (e ∷ es) [] h = absurd h

some_found : (es : List Expr) (qs : List Found) → Match StringFound es qs → are_some es ≡ true → are_some qs ≡ true
some_found [] [] h some = cc
some_found (e ∷ es) (q ∷ qs) h some = refl
some_found [] (q ∷ qs) h some = absurd h
some_found (e ∷ es) [] h some = absurd h

holds : (es : List Expr) (qs : List Found) → nat_le (length es) most_strings ≡ true → Match StringFound es qs → Holds (pattern_of qs) (map (λ (q : Found). q.1) qs)
holds es qs few h =
    let n = ap length (pattern_strings_are qs) ∙ as_many es qs h in
    let m : length es ≤ most_strings = grind (arith, nat_tests) in
    inl (record { few = omega (arith, n); each = subst (λ ss. AllZip ReadsString ss (map (λ (q : Found). q.1) qs)) (sym (pattern_strings_are qs)) (all_read es qs h) })

-- one string
pub string_finds : (e : Expr) → Said NoPattern e → tree_stands e ≡ true → Finds Found (λ q. SpeltPart (seq_of q.0) AsSequence) (spell_expr e) (StringFound e)
string_finds e f stands =
    let a = and_parts (kinds_stand (spell_expr e)) (expr_placed e && nat_le (expr_depth e) most_levels) stands in
    let b = and_parts (expr_placed e) (nat_le (expr_depth e) most_levels) a.1 in
    let deep : expr_depth e ≤ most_levels = grind (arith, nat_tests) in
    record {
      find = λ ts h.
          let r = f.find ts h in
          let d = depth_alike e r.0 r.2 in
          ((ts, r.0), seq_spelt ts (ap kinds_stand h ∙ a.0), (h, record { spelt = r.1; placed = ap (λ p. p.placed) (place_alike e r.0 r.2) ∙ b.0; within = omega (arith, d, deep) }, r.2));
    }

abbrev pub AllStrings : List Expr → Type 0
AllStrings es = All (λ (q : Found). SpeltPart (seq_of q.0) AsSequence) spell_expr StringFound es

pub pattern_said : (s : Span) (es : List Expr) → are_some es ≡ true → nat_le (length es) most_strings ≡ true → AllStrings es → Said SpeltPattern (at (eform.Pattern (choice_of es) es) s)
pattern_said s es some few all =
    made SpeltPattern (eform.Pattern (choice_of es) es) s (E.Pattern (choice_of es) es) (eform.rolls-Pattern (choice_of es) es) (pattern_spelled s es es)
    (finds_then (finds_sign mark.OpenPattern) (finds_then (finds_between (λ (q : Found). SpeltPart (seq_of q.0) AsSequence) spell_expr StringFound mark.Bar es all) (finds_sign mark.ClosePattern)))
    (λ r. E.Pattern (pattern_of r.1.0) (map (λ (q : Found). q.1) r.1.0))
    (λ r ts c h. (subst (λ trees. Holds (pattern_of r.1.0) trees) (sym (map-id (map (λ (q : Found). q.1) r.1.0))) (holds es r.1.0 few c.1.0), (h.0, h.1, h.2, h.3, (h.4.0, h.4.1, h.4.2, choice_spelt r.1.0 h.4.0 (some_found es r.1.0 c.1.0 some) h.4.3, h.4.4))))
    (λ r c i. E.Pattern (pattern_off es r.1.0 c.1.0 i) (trees_off es r.1.0 c.1.0 i))
