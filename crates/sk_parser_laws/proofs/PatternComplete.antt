-- What a pattern is spelt by is read as that pattern.
use Rattle.std.proofs.Common.{◌≡◌, ℕ, zero, suc, max, ◌<◌, ◌≤◌, true, false, not, List, [], ◌∷◌, ◌++◌, map, Some, None, refl, sym, ap, ◌∙◌, subst, arith, append-nil, append_assoc}
use Rattle.sk_base.specs.declared.span.Span.{Span}
use Rattle.sk_tree.specs.declared.token.Token.{Token}
use Rattle.sk_tree.specs.declared.token.Kind.{Kind}
use Rattle.sk_tree.specs.declared.token.Kind.TheVariants as kind
use Rattle.sk_tree.specs.declared.token.Mark.{Mark}
use Rattle.sk_tree.specs.declared.token.Mark.TheVariants as mark
use Rattle.sk_tree.specs.declared.pattern.Pattern.{Pattern}
use Rattle.sk_tree.specs.declared.pattern.Pattern.TheVariants as pattern
use Rattle.sk_tree.specs.declared.pattern.Pattern.TheOpen as P
use Rattle.sk_tree.specs.declared.pattern.Pattern.TheViews.{roll-Pattern}
use Rattle.sk_tree.specs.declared.pattern.Pattern.TheFolds.{map-Pattern, fold-roll-Pattern}
use Rattle.sk_tree.specs.Phrase.{Phrase, Sign, ◌▸◌, Each, Between}
use Rattle.sk_tree.specs.Spelt.{PatternRole, AsChoice, AsSequence, AsPart, AsPlain, SpeltPart, are_some, is_plain, may_mark, may_stand}
use Rattle.sk_tree.specs.Depth.{deepest, pattern_depth, pattern_step_depth}
use Rattle.sk_tree.proofs.Says.{each_map}
use Rattle.sk_tree.proofs.Layers.{PartLayer, PatternLayer, pattern_parts, pattern_law, part_spelt}
use Rattle.sk_parser_laws.specs.declared.pieces.DeepPattern.{DeepPattern}
use Rattle.sk_parser_laws.specs.declared.pieces.Parts.{Parts}
use Rattle.sk_parser_laws.specs.Readers.{mark_ahead, mark_at, repeated, deeper}
use Rattle.sk_parser_laws.specs.PatternReader.{formed, one_part, push_part, next_sequence, ends_choice, choice_at, next_part, starts_part, ends_sequence, sequence_at, group_at, plain_token, plain_kind, plain_at, behind_plain, part_at, pattern_at}
use Rattle.sk_parser_laws.proofs.Loops.{pair}
use Rattle.sk_parser_laws.proofs.Seen.{token}
use Rattle.sk_parser_laws.proofs.PatternSound.{pattern_sound, next_sequence_shrinks, next_part_shrinks}
use Rattle.sk_parser_laws.proofs.ExprSound.{both_true}
use Rattle.sk_parser_laws.proofs.Complete.{bind_is, if_yes, if_no, deeper_is, cut, first, mark_read, mark_seen, AllAre, behind_each, pushed, each_read}

abbrev pub deep : Pattern → DeepPattern
deep p = record { pattern = p; depth = pattern_depth p }

-- What may follow a pattern in its role: nothing that would go on with it.
abbrev pub Follows : PatternRole → List Token → Type 0
Follows AsChoice rest = (ends_choice rest ≡ true) × (ends_sequence rest ≡ true) × (mark_ahead mark.Question rest ≡ false)
Follows AsSequence rest = (ends_sequence rest ≡ true) × (mark_ahead mark.Question rest ≡ false)
Follows AsPart rest = mark_ahead mark.Question rest ≡ false
Follows AsPlain rest = Unit {0}

-- the pattern is read in each role
pub record PatternReads (p : Pattern) : Type 0 where
  pub some : 0 < pattern_depth p
  pub begins : (role : PatternRole) (ts rest : List Token) → is_plain role ≡ true → SpeltPart p role ts → (ends_sequence (ts ++ rest) ≡ false) × (mark_ahead mark.Question (ts ++ rest) ≡ false)
  pub reads : (b : ℕ) (role : PatternRole) (ts rest : List Token) → pattern_depth p ≤ b → SpeltPart p role ts → Follows role rest → pattern_at b role (ts ++ rest) ≡ Some (pair (deep p) rest)

formed_is : (b : ℕ) (l : P.Pattern-F Pattern) (p : Pattern) (depth : ℕ) (rest : List Token) → roll-Pattern l ≡ p → suc depth ≡ pattern_step_depth (map-Pattern Pattern ℕ pattern_depth l) → depth < b → formed b p depth rest ≡ Some (pair (deep (roll-Pattern l)) rest)
unfolding formed
formed_is b l p depth rest rolls d h =
    let e : suc depth ≡ pattern_depth (roll-Pattern l) = d ∙ sym (fold-roll-Pattern ℕ pattern_step_depth l) in
    bind_is (deeper b depth) _ (deeper_is b depth h) (λ i. Some (pair (record { pattern = sym rolls i; depth = e i }) rest))

abbrev Known : Type 0
Known = (p : Pattern) × PatternReads p

abbrev names : List Known → List Pattern
names qs = map (λ q. q.0) qs

abbrev push : Parts → Known → Parts
push parts q = push_part parts (deep q.0)

pushed_items : (s : Parts) (qs : List Known) → (pushed push s qs).items ≡ s.items ++ names qs
unfolding push_part
pushed_items s [] = sym (append-nil s.items)
pushed_items s (q ∷ qs) = pushed_items (push_part s (deep q.0)) qs ∙ append_assoc s.items (q.0 ∷ []) (names qs)

pushed_depth : (s : Parts) (qs : List Known) → (pushed push s qs).depth ≡ max s.depth (deepest (map pattern_depth (names qs)))
unfolding push_part
pushed_depth s [] = omega arith
pushed_depth s (q ∷ qs) = omega (arith, pushed_depth (push_part s (deep q.0)) qs)

-- each is at most so deep
all_within : (b : ℕ) (qs : List Known) → deepest (map pattern_depth (names qs)) ≤ b → AllAre (λ (q : Known). pattern_depth q.0 ≤ b) qs
all_within b [] h = tt
all_within b (q ∷ qs) h = (omega arith, all_within b qs (omega arith))

starts : (k : Kind) → may_stand k ≡ true → not (starts_part k) ≡ false
starts (kind.Mark mark.OpenParen) h = refl
starts (kind.Mark m) h = go m h
  where
    go : (m : Mark) → may_mark m ≡ true → not (starts_part (kind.Mark m)) ≡ false
    go mark.Bar h = cc
    go mark.Question h = cc
    go mark.CloseParen h = cc
    go mark.OpenPattern h = cc
    go mark.ClosePattern h = cc
    go _ h = refl
starts _ h = refl

no_question : (k : Kind) (s : Span) (ts : List Token) → may_stand k ≡ true → mark_ahead mark.Question (token k s ∷ ts) ≡ false
unfolding mark_ahead
no_question (kind.Mark mark.Question) s ts h = cc
no_question (kind.Mark _) s ts h = refl
no_question _ s ts h = refl

abbrev SequenceBehind : Known → Phrase
SequenceBehind q = Sign mark.Bar ▸ SpeltPart q.0 AsSequence

bar_follows : (ts : List Token) (s : Span) (ys rest : List Token) → ts ≡ token (kind.Mark mark.Bar) s ∷ ys → Follows AsSequence (ts ++ rest)
unfolding ends_sequence mark_ahead
bar_follows ts s ys rest e = (ap (λ l. ends_sequence (l ++ rest)) e, ap (λ l. mark_ahead mark.Question (l ++ rest)) e)

bar_goes_on : (ts : List Token) (s : Span) (ys rest : List Token) → ts ≡ token (kind.Mark mark.Bar) s ∷ ys → ends_choice (ts ++ rest) ≡ false
unfolding ends_choice
bar_goes_on ts s ys rest e = ap not (mark_seen mark.Bar ts s ys rest e)

next_sequence_reads : (b : ℕ) (parts : Parts) (q : Known) (ts rest : List Token) → pattern_depth q.0 ≤ b → SequenceBehind q ts → Follows AsSequence rest → next_sequence (pattern_at b) parts (ts ++ rest) ≡ Some (pair (push parts q) rest)
unfolding next_sequence
next_sequence_reads b parts q ts rest ok h f =
    let g = first h in
    bind_is (mark_at mark.Bar (ts ++ rest)) _ (mark_read mark.Bar ts g.at g.behind rest g.is)
    (bind_is (pattern_at b AsSequence (g.behind ++ rest)) _ (q.1.reads b AsSequence g.behind rest ok g.then_ f) refl)

sequences_read : (b : ℕ) (qs : List Known) (s : Parts) (ts rest : List Token) → AllAre (λ (q : Known). pattern_depth q.0 ≤ b) qs → Each SequenceBehind qs ts → Follows AsChoice rest → repeated ends_choice (next_sequence (pattern_at b)) s (ts ++ rest) ≡ Some (pair (pushed push s qs) rest)
sequences_read b qs s ts rest ok h f =
    each_read ends_choice (next_sequence (pattern_at b)) (next_sequence_shrinks b (pattern_at b) (pattern_sound b)) SequenceBehind push (λ (q : Known). pattern_depth q.0 ≤ b) (Follows AsSequence)
    (λ parts q ts rest ok h f. next_sequence_reads b parts q ts rest ok h f)
    (λ q ts rest h. let g = first h in bar_goes_on ts g.at g.behind rest g.is)
    (λ q ts rest h. let g = first h in bar_follows ts g.at g.behind rest g.is)
    qs s ts rest ok h (f.1, f.2) f.0

-- what follows the first sequence
behind_first : (qs : List Known) (ts rest : List Token) → Each SequenceBehind qs ts → Follows AsChoice rest → Follows AsSequence (ts ++ rest)
behind_first [] ts rest h f = subst (λ l. Follows AsSequence (l ++ rest)) (sym h) (f.1, f.2)
behind_first (q ∷ qs) ts rest (xs, ys, is, h, more) f =
    let g = first h in
    subst (Follows AsSequence) (sym (cut _ _ is rest)) (bar_follows xs g.at g.behind (ys ++ rest) g.is)

choice_reads : (qs : List Known) (b : ℕ) (ts rest : List Token) → suc (deepest (map pattern_depth (names qs))) ≤ suc b → are_some (names qs) ≡ true → Between (Sign mark.Bar) (λ p. SpeltPart p AsSequence) (names qs) ts → Follows AsChoice rest → choice_at (pattern_at b) (suc b) (ts ++ rest) ≡ Some (pair (deep (roll-Pattern (P.Choice (names qs)))) rest)
unfolding choice_at
choice_reads [] b ts rest d some h f = cc
choice_reads (q ∷ qs) b ts rest d some (xs, ys, is, hq, more) f =
    let each : Each SequenceBehind qs ys = subst (λ (P : Phrase). P ys) (sym (each_map (λ p. Sign mark.Bar ▸ SpeltPart p AsSequence) (λ (q : Known). q.0) qs)) (behind_each (Sign mark.Bar) (λ p. SpeltPart p AsSequence) (names qs) ys more) in
    let all = pushed push (one_part (deep q.0)) qs in
    let items : all.items ≡ names (q ∷ qs) = pushed_items (one_part (deep q.0)) qs in
    let depth : all.depth ≡ deepest (map pattern_depth (names (q ∷ qs))) = pushed_depth (one_part (deep q.0)) qs in
    ap (choice_at (pattern_at b) (suc b)) (cut _ _ is rest)
    ∙ bind_is (pattern_at b AsSequence (xs ++ (ys ++ rest))) _ (q.1.reads b AsSequence xs (ys ++ rest) (omega arith) hq (behind_first qs ys rest each f))
    (bind_is (repeated ends_choice (next_sequence (pattern_at b)) (one_part (deep q.0)) (ys ++ rest)) _ (sequences_read b qs (one_part (deep q.0)) ys rest (all_within b qs (omega arith)) each f)
    (formed_is (suc b) (P.Choice (names (q ∷ qs))) (pattern.Choice all.items) all.depth rest (pattern.rolls-Choice (names (q ∷ qs)) ∙ ap pattern.Choice (sym items)) (ap suc depth) (omega (arith, depth))))

-- Sequences

abbrev PartOf : Known → Phrase
PartOf q = SpeltPart q.0 AsPart

next_part_reads : (b : ℕ) (parts : Parts) (q : Known) (ts rest : List Token) → pattern_depth q.0 ≤ b → PartOf q ts → Follows AsPart rest → next_part (pattern_at b) parts (ts ++ rest) ≡ Some (pair (push parts q) rest)
unfolding next_part
next_part_reads b parts q ts rest ok h f = bind_is (pattern_at b AsPart (ts ++ rest)) _ (q.1.reads b AsPart ts rest ok h f) refl

parts_read : (b : ℕ) (qs : List Known) (s : Parts) (ts rest : List Token) → AllAre (λ (q : Known). pattern_depth q.0 ≤ b) qs → Each PartOf qs ts → Follows AsSequence rest → repeated ends_sequence (next_part (pattern_at b)) s (ts ++ rest) ≡ Some (pair (pushed push s qs) rest)
parts_read b qs s ts rest ok h f =
    each_read ends_sequence (next_part (pattern_at b)) (next_part_shrinks b (pattern_at b) (pattern_sound b)) PartOf push (λ (q : Known). pattern_depth q.0 ≤ b) (Follows AsPart)
    (λ parts q ts rest ok h f. next_part_reads b parts q ts rest ok h f)
    (λ q ts rest h. (q.1.begins AsPart ts rest refl h).0)
    (λ q ts rest h. (q.1.begins AsPart ts rest refl h).1)
    qs s ts rest ok h f.1 f.0

behind_first_part : (qs : List Known) (ts rest : List Token) → Each PartOf qs ts → Follows AsSequence rest → Follows AsPart (ts ++ rest)
behind_first_part [] ts rest h f = ap (λ l. mark_ahead mark.Question (l ++ rest)) h ∙ f.1
behind_first_part (q ∷ qs) ts rest (xs, ys, is, h, more) f = ap (mark_ahead mark.Question) (cut _ _ is rest) ∙ (q.1.begins AsPart xs (ys ++ rest) refl h).1

sequence_reads : (qs : List Known) (b : ℕ) (ts rest : List Token) → suc (deepest (map pattern_depth (names qs))) ≤ suc b → are_some (names qs) ≡ true → Each (λ p. SpeltPart p AsPart) (names qs) ts → Follows AsSequence rest → sequence_at (pattern_at b) (suc b) (ts ++ rest) ≡ Some (pair (deep (roll-Pattern (P.Seq (names qs)))) rest)
unfolding sequence_at
sequence_reads [] b ts rest d some h f = cc
sequence_reads (q ∷ qs) b ts rest d some (xs, ys, is, hq, more) f =
    let each : Each PartOf qs ys = subst (λ (P : Phrase). P ys) (sym (each_map (λ p. SpeltPart p AsPart) (λ (q : Known). q.0) qs)) more in
    let all = pushed push (one_part (deep q.0)) qs in
    let items : all.items ≡ names (q ∷ qs) = pushed_items (one_part (deep q.0)) qs in
    let depth : all.depth ≡ deepest (map pattern_depth (names (q ∷ qs))) = pushed_depth (one_part (deep q.0)) qs in
    ap (sequence_at (pattern_at b) (suc b)) (cut _ _ is rest)
    ∙ bind_is (pattern_at b AsPart (xs ++ (ys ++ rest))) _ (q.1.reads b AsPart xs (ys ++ rest) (omega arith) hq (behind_first_part qs ys rest each f))
    (bind_is (repeated ends_sequence (next_part (pattern_at b)) (one_part (deep q.0)) (ys ++ rest)) _ (parts_read b qs (one_part (deep q.0)) ys rest (all_within b qs (omega arith)) each f)
    (formed_is (suc b) (P.Seq (names (q ∷ qs))) (pattern.Seq all.items) all.depth rest (pattern.rolls-Seq (names (q ∷ qs)) ∙ ap pattern.Seq (sym items)) (ap suc depth) (omega (arith, depth))))

-- Parts

plain_group_reads : (q : Known) (b : ℕ) (ts rest : List Token) → suc (pattern_depth q.0) ≤ suc b → (Sign mark.OpenParen ▸ SpeltPart q.0 AsChoice ▸ Sign mark.CloseParen) ts → plain_at (pattern_at b) (suc b) (ts ++ rest) ≡ Some (pair (deep (roll-Pattern (P.Group q.0))) rest)
unfolding plain_at group_at ends_choice ends_sequence mark_ahead
plain_group_reads q b ts rest d h =
    let g = first h in
    go g.then_ g.at g.is
  where
    closes : (zs : List Token) (s : Span) → zs ≡ token (kind.Mark mark.CloseParen) s ∷ [] → Follows AsChoice (zs ++ rest)
    closes zs s e = (ap (λ l. ends_choice (l ++ rest)) e, ap (λ l. ends_sequence (l ++ rest)) e, ap (λ l. mark_ahead mark.Question (l ++ rest)) e)

    go : {ys : List Token} → (SpeltPart q.0 AsChoice ▸ Sign mark.CloseParen) ys → (at : Span) → ts ≡ token (kind.Mark mark.OpenParen) at ∷ ys → plain_at (pattern_at b) (suc b) (ts ++ rest) ≡ Some (pair (deep (roll-Pattern (P.Group q.0))) rest)
    go {ys} (xs, zs, is, hq, (s, isz)) at e =
        ap (λ l. plain_at (pattern_at b) (suc b) (l ++ rest)) e
        ∙ ap (group_at (pattern_at b) (suc b)) (cut _ _ is rest)
        ∙ bind_is (pattern_at b AsChoice (xs ++ (zs ++ rest))) _ (q.1.reads b AsChoice xs (zs ++ rest) (omega arith) hq (closes zs s isz))
        (bind_is (mark_at mark.CloseParen (zs ++ rest)) _ (mark_read mark.CloseParen zs s [] rest isz)
        (formed_is (suc b) (P.Group q.0) (pattern.Group q.0) (pattern_depth q.0) rest (pattern.rolls-Group q.0) refl (omega arith)))

plain_one_reads : (t : Token) (b : ℕ) (rest : List Token) → may_stand t.kind ≡ true → plain_at (pattern_at b) (suc b) (t ∷ rest) ≡ Some (pair (deep (roll-Pattern (P.One t))) rest)
unfolding plain_at
plain_one_reads t b rest h = go t.kind refl h
  where
    one : may_stand t.kind ≡ true → plain_token (pattern_at b) (suc b) t rest ≡ Some (pair (deep (roll-Pattern (P.One t))) rest)
    one h = if_yes (may_stand t.kind) (formed (suc b) (pattern.One t) 0 rest) None h (formed_is (suc b) (P.One t) (pattern.One t) 0 rest (pattern.rolls-One t) refl (omega arith))

    go : (k : Kind) → t.kind ≡ k → may_stand k ≡ true → plain_kind (pattern_at b) (suc b) t k rest ≡ Some (pair (deep (roll-Pattern (P.One t))) rest)
    go (kind.Mark mark.OpenParen) e h = cc
    go _ e h = one (ap may_stand e ∙ h)

-- a part that stands alone, with no `?` behind it
part_alone : (b : ℕ) (p : Pattern) (ts rest : List Token) → plain_at (pattern_at b) (suc b) (ts ++ rest) ≡ Some (pair (deep p) rest) → mark_ahead mark.Question rest ≡ false → part_at (pattern_at b) (suc b) (ts ++ rest) ≡ Some (pair (deep p) rest)
unfolding part_at behind_plain
part_alone b p ts rest e f =
    bind_is (plain_at (pattern_at b) (suc b) (ts ++ rest)) _ e
    (if_no (mark_ahead mark.Question rest) _ (Some (pair (deep p) rest)) f refl)

maybe_reads : (q : Known) (b : ℕ) (ts rest : List Token) → suc (pattern_depth q.0) ≤ suc b → (SpeltPart q.0 AsPlain ▸ Sign mark.Question) ts → part_at (pattern_at b) (suc b) (ts ++ rest) ≡ Some (pair (deep (roll-Pattern (P.Maybe q.0))) rest)
unfolding part_at behind_plain pattern_at
maybe_reads q b ts rest d (xs, ys, is, hq, (s, isy)) =
    ap (part_at (pattern_at b) (suc b)) (cut _ _ is rest)
    ∙ bind_is (plain_at (pattern_at b) (suc b) (xs ++ (ys ++ rest))) _ (q.1.reads (suc b) AsPlain xs (ys ++ rest) (omega arith) hq tt)
    (if_yes (mark_ahead mark.Question (ys ++ rest)) _ _ (mark_seen mark.Question ys s [] rest isy)
    (bind_is (mark_at mark.Question (ys ++ rest)) _ (mark_read mark.Question ys s [] rest isy)
    (formed_is (suc b) (P.Maybe q.0) (pattern.Maybe q.0) (pattern_depth q.0) rest (pattern.rolls-Maybe q.0) refl (omega arith))))

-- All patterns

abbrev Layer : Type 0
Layer = PatternLayer PatternReads

abbrev parts : Layer → P.Pattern-F Pattern
parts y = pattern_parts PatternReads y

step_some : (y : Layer) → 0 < pattern_step_depth (map-Pattern Pattern ℕ pattern_depth (parts y))
step_some (P.Choice qs) = omega arith
step_some (P.Seq qs) = omega arith
step_some (P.Maybe q) = omega arith
step_some (P.Group q) = omega arith
step_some (P.One t) = omega arith

layer_begins : (y : Layer) (role : PatternRole) (ts rest : List Token) → is_plain role ≡ true → PartLayer (parts y) role ts → (ends_sequence (ts ++ rest) ≡ false) × (mark_ahead mark.Question (ts ++ rest) ≡ false)
unfolding ends_sequence mark_ahead
layer_begins (P.Choice qs) AsChoice ts rest plain h = cc
layer_begins (P.Choice qs) AsSequence ts rest plain h = absurd h
layer_begins (P.Choice qs) AsPart ts rest plain h = absurd h
layer_begins (P.Choice qs) AsPlain ts rest plain h = absurd h
layer_begins (P.Seq qs) AsChoice ts rest plain h = absurd h
layer_begins (P.Seq qs) AsSequence ts rest plain h = cc
layer_begins (P.Seq qs) AsPart ts rest plain h = absurd h
layer_begins (P.Seq qs) AsPlain ts rest plain h = absurd h
layer_begins (P.Maybe q) AsPart ts rest plain (xs, ys, is, hq, hy) =
    let f = q.1.begins AsPlain xs (ys ++ rest) refl hq in
    (ap ends_sequence (cut xs ys is rest) ∙ f.0, ap (mark_ahead mark.Question) (cut xs ys is rest) ∙ f.1)
layer_begins (P.Maybe q) AsChoice ts rest plain h = absurd h
layer_begins (P.Maybe q) AsSequence ts rest plain h = absurd h
layer_begins (P.Maybe q) AsPlain ts rest plain h = absurd h
layer_begins (P.Group q) role ts rest plain h =
    let g = first h.1 in
    (ap (λ l. ends_sequence (l ++ rest)) g.is, ap (λ l. mark_ahead mark.Question (l ++ rest)) g.is)
layer_begins (P.One t) role ts rest plain h =
    let stands : may_stand t.kind ≡ true = (both_true (is_plain role) (may_stand t.kind) h.0).1 in
    (ap (λ l. ends_sequence (l ++ rest)) h.1 ∙ starts t.kind stands, ap (λ l. mark_ahead mark.Question (l ++ rest)) h.1 ∙ no_question t.kind t.span rest stands)

layer_reads : (y : Layer) (b : ℕ) (role : PatternRole) (ts rest : List Token) → pattern_step_depth (map-Pattern Pattern ℕ pattern_depth (parts y)) ≤ suc b → PartLayer (parts y) role ts → Follows role rest → pattern_at (suc b) role (ts ++ rest) ≡ Some (pair (deep (roll-Pattern (parts y))) rest)
unfolding pattern_at
layer_reads (P.Choice qs) b AsChoice ts rest d h f = choice_reads qs b ts rest d h.0 h.1 f
layer_reads (P.Choice qs) b AsSequence ts rest d h f = absurd h
layer_reads (P.Choice qs) b AsPart ts rest d h f = absurd h
layer_reads (P.Choice qs) b AsPlain ts rest d h f = absurd h
layer_reads (P.Seq qs) b AsChoice ts rest d h f = absurd h
layer_reads (P.Seq qs) b AsSequence ts rest d h f = sequence_reads qs b ts rest d h.0 h.1 f
layer_reads (P.Seq qs) b AsPart ts rest d h f = absurd h
layer_reads (P.Seq qs) b AsPlain ts rest d h f = absurd h
layer_reads (P.Maybe q) b AsChoice ts rest d h f = absurd h
layer_reads (P.Maybe q) b AsSequence ts rest d h f = absurd h
layer_reads (P.Maybe q) b AsPart ts rest d h f = maybe_reads q b ts rest d h
layer_reads (P.Maybe q) b AsPlain ts rest d h f = absurd h
layer_reads (P.Group q) b AsChoice ts rest d h f = let bad : false ≡ true = h.0 in cc
layer_reads (P.Group q) b AsSequence ts rest d h f = let bad : false ≡ true = h.0 in cc
layer_reads (P.Group q) b AsPart ts rest d h f = part_alone b (roll-Pattern (P.Group q.0)) ts rest (plain_group_reads q b ts rest d h.1) f
layer_reads (P.Group q) b AsPlain ts rest d h f = plain_group_reads q b ts rest d h.1
layer_reads (P.One t) b AsChoice ts rest d h f = let bad : false ≡ true = h.0 in cc
layer_reads (P.One t) b AsSequence ts rest d h f = let bad : false ≡ true = h.0 in cc
layer_reads (P.One t) b AsPart ts rest d h f = part_alone b (roll-Pattern (P.One t)) ts rest (ap (λ l. plain_at (pattern_at b) (suc b) (l ++ rest)) h.1 ∙ plain_one_reads t b rest h.0) f
layer_reads (P.One t) b AsPlain ts rest d h f = ap (λ l. plain_at (pattern_at b) (suc b) (l ++ rest)) h.1 ∙ plain_one_reads t b rest h.0

layer_at : (y : Layer) → pattern_depth (roll-Pattern (parts y)) ≡ pattern_step_depth (map-Pattern Pattern ℕ pattern_depth (parts y)) → (b : ℕ) (role : PatternRole) (ts rest : List Token) → pattern_depth (roll-Pattern (parts y)) ≤ b → PartLayer (parts y) role ts → Follows role rest → pattern_at b role (ts ++ rest) ≡ Some (pair (deep (roll-Pattern (parts y))) rest)
layer_at y e zero role ts rest d h f = absurd (omega (arith, step_some y))
layer_at y e (suc b) role ts rest d h f = layer_reads y b role ts rest (omega arith) h f

layer : (y : Layer) → PatternReads (roll-Pattern (parts y))
layer y =
    let depth : pattern_depth (roll-Pattern (parts y)) ≡ pattern_step_depth (map-Pattern Pattern ℕ pattern_depth (parts y)) = fold-roll-Pattern ℕ pattern_step_depth (parts y) in
    record {
      some = omega (arith, depth, step_some y);
      begins = λ role ts rest plain h. layer_begins y role ts rest plain (subst (λ (P : PatternRole → Phrase). P role ts) (part_spelt (parts y)) h);
      reads = λ b role ts rest d h f. layer_at y depth b role ts rest d (subst (λ (P : PatternRole → Phrase). P role ts) (part_spelt (parts y)) h) f;
    }

-- what a pattern is spelt by is read as that pattern
pub pattern_reads : (p : Pattern) → PatternReads p
pattern_reads = pattern_law PatternReads layer
