-- A text means one program, which has one expansion; or it has one cause for which it is refused.
use Rattle.std.proofs.Common.{◌≡◌, ℕ, ◌≤◌, ◌<◌, List, length, refl, sym, ap, subst, ◌∙◌, arith}
use Rattle.std.proofs.lemmas.Bool.{false≢true}
use Rattle.std.specs.Prelude.{IsTrue, not, ◌||◌, Result, Ok, Err, IfOk, IfErr, MatchResult}
use Rattle.sk_base.specs.declared.bounds.Bounds.{Bounds}
use Rattle.sk_tree.specs.declared.item.Tree.{Tree}
use Rattle.sk_prog.specs.declared.prog.Prog.{Prog}
use Rattle.sk_types_rules.specs.Types.{Types}
use Rattle.sk_types_laws.proofs.WholeComplete.{once}
use Rattle.sk_model.specs.declared.expanded.Expanded.{Expanded}
use Rattle.sk_model.specs.Expand.{expand}
use Rattle.sk_model.specs.Nodes.{nodes}
use Rattle.sk_model.specs.Limits.{most_nodes, most_sites, most_steps, most_news, IsWithinLimits}
use Rattle.sk_model.specs.Steps.{steps}
use Rattle.sk_model.specs.News.{news}
use Rattle.sk_expand.specs.Whole.{HasCause}
use Rattle.sk_opts.specs.declared.line.Set.{Set}
use Rattle.sk_opts.specs.BoundsOf.{bounds_of}
use Rattle.sk_expand_sizes.specs.declared.fault.SizeFault.{SizeFault}
use Rattle.sk_expand_sizes.specs.declared.fault.SizeFault.TheVariants as size
use Rattle.sk_expand_sizes.specs.Sizes.{is_copies, is_sites, is_steps, is_news}
use Rattle.sk_front.specs.declared.fault.SketchFault.{SketchFault}
use Rattle.sk_front.specs.declared.fault.SketchFault.TheVariants as fault
use Rattle.sk_front.specs.declared.fault.TextFault.{TextFault}
use Rattle.sk_front.specs.declared.program.Typed.{Typed}
use Rattle.sk_front.specs.declared.expansion.Expansion.{Expansion}
use Rattle.sk_front.specs.Texts.{HasTree, IsTextFault}
use Rattle.sk_front.specs.Front.{IsTypedAs, IsUntyped, IsExpandedTo, IsSizedTo, IsOver, IsTooLarge, Means, Expands, ExpandsWithin, IsTyped, IsExpansion, too_large, IsFaultOfProgram, IsFaultOfExpansion, IsFaultOfSizes, IsSame, IsCause, IsToldAs, IsMemory}
use Rattle.sk_front.proofs.TextLaws.{one_tree, no_fault, same_fault}

module _ (set : Set) (text : List ℕ) where
  -- One program

  -- what one tree means under bounds, its equal means under theirs
  types_of : (t u : Tree) (b c : Bounds) (p : Prog) → t ≡ u → b ≡ c → Types t b p → Types u c p
  types_of t u b c p same within types = subst (λ x. Types u x p) within (subst (λ s. Types s b p) same types)

  pub one_bounds : (t u : Tree) (b c : Bounds) → HasTree text t → HasTree text u → b ≡ bounds_of set t → c ≡ bounds_of set u → b ≡ c
  one_bounds t u b c x y given also = given ∙ ap (bounds_of set) (one_tree text t u x y) ∙ sym also

  pub one_program : (t u : Tree) (b c : Bounds) (p q : Prog) → IsTypedAs set text t b p → IsTypedAs set text u c q → (t ≡ u) × (b ≡ c) × (p ≡ q)
  one_program t u b c p q x y =
      let same : t ≡ u = one_tree text t u x.reads y.reads in
      let within : b ≡ c = one_bounds t u b c x.reads y.reads x.given y.given in
      (same, within, once c u p q (types_of t u b c p same within x.types) y.types)

  -- one expansion
  pub one_expansion : (t u : Tree) (b c : Bounds) (p q : Prog) → IsTypedAs set text t b p → IsTypedAs set text u c q → expand p b ≡ expand q c
  one_expansion t u b c p q x y = let same = one_program t u b c p q x y in λ i. expand (same.2 i) (same.1 i)

  -- Causes exclude each other

  pub typed_or_not : (t : Tree) (b : Bounds) (p : Prog) → IsTypedAs set text t b p → IsUntyped set text → ⊥
  typed_or_not t b p x y = y.none p (types_of t y.tree b (bounds_of set y.tree) p (one_tree text t y.tree x.reads y.reads) (one_bounds t y.tree b (bounds_of set y.tree) x.reads y.reads x.given refl) x.types)

  typed_or_faulty : (t : Tree) (b : Bounds) (p : Prog) (f : TextFault) → IsTypedAs set text t b p → IsTextFault f text → ⊥
  typed_or_faulty t b p f x y = no_fault text t f x.reads y

  untyped_or_faulty : (f : TextFault) → IsUntyped set text → IsTextFault f text → ⊥
  untyped_or_faulty f x y = no_fault text x.tree f x.reads y

  -- two sizes that are told are one
  one_size : (e : Expanded) (b : Bounds) (r s : SizeFault) → IsOver r e b → IsOver s e b → r ≡ s
  one_size e b size.Copies size.Copies x y = refl
  one_size e b size.Copies size.Sites x y = absurd (omega (arith, x, y.0))
  one_size e b size.Copies size.Steps x y = absurd (omega (arith, x, y.0))
  one_size e b size.Copies size.News x y = absurd (omega (arith, x, y.0))
  one_size e b size.Sites size.Copies x y = absurd (omega (arith, x.0, y))
  one_size e b size.Sites size.Sites x y = refl
  one_size e b size.Sites size.Steps x y = absurd (omega (arith, x.1, y.1))
  one_size e b size.Sites size.News x y = absurd (omega (arith, x.1, y.1))
  one_size e b size.Steps size.Copies x y = absurd (omega (arith, x.0, y))
  one_size e b size.Steps size.Sites x y = absurd (omega (arith, x.1, y.1))
  one_size e b size.Steps size.Steps x y = refl
  one_size e b size.Steps size.News x y = absurd (omega (arith, x.2, y.2))
  one_size e b size.News size.Copies x y = absurd (omega (arith, x.0, y))
  one_size e b size.News size.Sites x y = absurd (omega (arith, x.1, y.1))
  one_size e b size.News size.Steps x y = absurd (omega (arith, x.2, y.2))
  one_size e b size.News size.News x y = refl
  one_size e b size.Memory s x y = absurd x
  one_size e b r size.Memory x y = absurd y

  -- what is within the limits is not too large
  fits_or_not : (e : Expanded) (b : Bounds) (r : SizeFault) → IsWithinLimits e b → IsOver r e b → ⊥
  fits_or_not e b size.Copies x y = omega (arith, x.nodes_fit, y)
  fits_or_not e b size.Sites x y = omega (arith, x.sites_fit, y.1)
  fits_or_not e b size.Steps x y = omega (arith, x.steps_fit, y.2)
  fits_or_not e b size.News x y = omega (arith, x.news_fit, y.3)
  fits_or_not e b size.Memory x y = absurd y

  -- the same reason, of any other expansion of the text
  pub over_of : (t : Tree) (b : Bounds) (p : Prog) (r : SizeFault) → IsTypedAs set text t b p → (l : IsTooLarge set text r) → IsOver r (expand p b) b
  over_of t b p r x l =
      let same = one_program l.tree t l.bounds b l.prog p l.typed x in
      subst (λ c. IsOver r (expand p c) c) same.1 (subst (λ q. IsOver r (expand q l.bounds) l.bounds) same.2 l.over)

  one_reason : (r s : SizeFault) → IsTooLarge set text r → IsTooLarge set text s → r ≡ s
  one_reason r s x y = one_size (expand x.prog x.bounds) x.bounds r s x.over (over_of x.tree x.bounds x.prog s x.typed y)

  -- Refusals

  pub one_cause : (f g : SketchFault) → IsCause (IsFaultOfSizes set text) f → IsCause (IsFaultOfSizes set text) g → IsSame f g
  one_cause (fault.NotText a) (fault.NotText b) x y = same_fault text a b x y
  one_cause (fault.NotText a) (fault.NotTyped b) x y = absurd (untyped_or_faulty a y x)
  one_cause (fault.NotText a) (fault.TooLarge b) x y = absurd (typed_or_faulty y.tree y.bounds y.prog a y.typed x)
  one_cause (fault.NotTyped a) (fault.NotText b) x y = absurd (untyped_or_faulty b x y)
  one_cause (fault.NotTyped a) (fault.NotTyped b) x y = tt
  one_cause (fault.NotTyped a) (fault.TooLarge b) x y = absurd (typed_or_not y.tree y.bounds y.prog y.typed x)
  one_cause (fault.TooLarge a) (fault.NotText b) x y = absurd (typed_or_faulty x.tree x.bounds x.prog b x.typed y)
  one_cause (fault.TooLarge a) (fault.NotTyped b) x y = absurd (typed_or_not x.tree x.bounds x.prog x.typed y)
  one_cause (fault.TooLarge a) (fault.TooLarge b) x y = one_reason a b x y
  one_cause fault.Memory g x y = absurd x
  one_cause f fault.Memory x y = absurd y

  -- what refuses a text before its sizes are known refuses it after
  of_program : (f : SketchFault) → IsCause (IsFaultOfProgram set text) f → IsCause (IsFaultOfSizes set text) f
  of_program (fault.NotText a) x = x
  of_program (fault.NotTyped a) x = x
  of_program (fault.TooLarge r) x = absurd x
  of_program fault.Memory x = absurd x

  of_expansion : (f : SketchFault) → IsCause (IsFaultOfExpansion set text) f → IsCause (IsFaultOfSizes set text) f
  of_expansion (fault.NotText a) x = x
  of_expansion (fault.NotTyped a) x = x
  of_expansion (fault.TooLarge size.Copies) x = x
  of_expansion (fault.TooLarge size.Sites) x = x
  of_expansion (fault.TooLarge size.Steps) x = absurd x
  of_expansion (fault.TooLarge size.News) x = absurd x
  of_expansion (fault.TooLarge size.Memory) x = absurd x
  of_expansion fault.Memory x = absurd x

  pub meaning_or_cause : (t : Tree) (b : Bounds) (p : Prog) (f : SketchFault) → IsTypedAs set text t b p → IsCause (IsFaultOfProgram set text) f → ⊥
  meaning_or_cause t b p (fault.NotText a) x y = typed_or_faulty t b p a x y
  meaning_or_cause t b p (fault.NotTyped a) x y = typed_or_not t b p x y
  meaning_or_cause t b p (fault.TooLarge r) x y = absurd y
  meaning_or_cause t b p fault.Memory x y = absurd y

  pub expansion_or_cause : (t : Tree) (b : Bounds) (p : Prog) (e : Expanded) (f : SketchFault) → IsExpandedTo set text t b p e → IsCause (IsFaultOfExpansion set text) f → ⊥
  expansion_or_cause t b p e (fault.NotText a) x y = typed_or_faulty t b p a x.typed y
  expansion_or_cause t b p e (fault.NotTyped a) x y = typed_or_not t b p x.typed y
  expansion_or_cause t b p e (fault.TooLarge size.Copies) x y = let few = subst (λ z. nodes z.prog ≤ most_nodes) x.is x.nodes_fit in let over = over_of t b p size.Copies x.typed y in omega (arith, few, over)
  expansion_or_cause t b p e (fault.TooLarge size.Sites) x y = let few = subst (λ z. length z.sites ≤ most_sites) x.is x.sites_fit in let over = over_of t b p size.Sites x.typed y in omega (arith, few, over.1)
  expansion_or_cause t b p e (fault.TooLarge size.Steps) x y = absurd y
  expansion_or_cause t b p e (fault.TooLarge size.News) x y = absurd y
  expansion_or_cause t b p e (fault.TooLarge size.Memory) x y = absurd y
  expansion_or_cause t b p e fault.Memory x y = absurd y

  pub sizes_or_cause : (t : Tree) (b : Bounds) (p : Prog) (e : Expanded) (f : SketchFault) → IsSizedTo set text t b p e → IsCause (IsFaultOfSizes set text) f → ⊥
  sizes_or_cause t b p e (fault.NotText a) x y = typed_or_faulty t b p a x.typed y
  sizes_or_cause t b p e (fault.NotTyped a) x y = typed_or_not t b p x.typed y
  sizes_or_cause t b p e (fault.TooLarge r) x y = fits_or_not (expand p b) b r (subst (λ z. IsWithinLimits z b) x.is x.sized) (over_of t b p r x.typed y)
  sizes_or_cause t b p e fault.Memory x y = absurd y

  -- The answers of the calls, in the other direction

  told_as : (Fault : SketchFault → Type 0) → ((f g : SketchFault) → IsCause Fault f → IsCause Fault g → IsSame f g) → (told f : SketchFault) → IsCause Fault told → Fault f → IsToldAs told f
  told_as Fault same told (fault.NotText a) cause is = same told (fault.NotText a) cause is
  told_as Fault same told (fault.NotTyped a) cause is = same told (fault.NotTyped a) cause is
  told_as Fault same told (fault.TooLarge a) cause is = same told (fault.TooLarge a) cause is
  told_as Fault same told fault.Memory cause is = tt

  refused_as : {A : Type 0} (Found : A → Type 0) (Fault : SketchFault → Type 0) → ((f g : SketchFault) → IsCause Fault f → IsCause Fault g → IsSame f g) → ((a : A) → Found a → (f : SketchFault) → IsCause Fault f → ⊥) → (r : Result A SketchFault) → IfOk r Found → IfErr r Fault → (told : SketchFault) → IsCause Fault told → MatchResult r (λ _. ⊥) (IsToldAs told)
  refused_as Found Fault same or_not (Ok a) found is told cause = or_not a found told cause
  refused_as Found Fault same or_not (Err f) found is told cause = told_as Fault same told f cause is

  is_memory : (Fault : SketchFault → Type 0) (f : SketchFault) → (IsCause Fault f → ⊥) → Fault f → IsMemory f
  is_memory Fault (fault.NotText a) none is = none is
  is_memory Fault (fault.NotTyped a) none is = none is
  is_memory Fault (fault.TooLarge a) none is = none is
  is_memory Fault fault.Memory none is = tt

  taken_as : {A : Type 0} (Found That : A → Type 0) (Fault : SketchFault → Type 0) → ((a : A) → Found a → That a) → ((f : SketchFault) → IsCause Fault f → ⊥) → (r : Result A SketchFault) → IfOk r Found → IfErr r Fault → MatchResult r That IsMemory
  taken_as Found That Fault that none (Ok a) found is = that a found
  taken_as Found That Fault that none (Err f) found is = is_memory Fault f (none f) is

  pub only_program : (r : Result Typed SketchFault) → IfOk r (Means set text) → IfErr r (IsFaultOfProgram set text) → (told : SketchFault) → IsCause (IsFaultOfProgram set text) told → MatchResult r (λ _. ⊥) (IsToldAs told)
  only_program = refused_as (Means set text) (IsFaultOfProgram set text) (λ f g x y. one_cause f g (of_program f x) (of_program g y)) (λ a m f c. meaning_or_cause a.tree a.bounds a.prog f m.typed_as c)

  pub only_expansion : (r : Result Expansion SketchFault) → IfOk r (Expands set text) → IfErr r (IsFaultOfExpansion set text) → (told : SketchFault) → IsCause (IsFaultOfExpansion set text) told → MatchResult r (λ _. ⊥) (IsToldAs told)
  only_expansion = refused_as (Expands set text) (IsFaultOfExpansion set text) (λ f g x y. one_cause f g (of_expansion f x) (of_expansion g y)) (λ a m f c. expansion_or_cause a.tree a.bounds a.prog a.expanded f m.expanded_to c)

  pub only_sized : (r : Result Expansion SketchFault) → IfOk r (ExpandsWithin set text) → IfErr r (IsFaultOfSizes set text) → (told : SketchFault) → IsCause (IsFaultOfSizes set text) told → MatchResult r (λ _. ⊥) (IsToldAs told)
  only_sized = refused_as (ExpandsWithin set text) (IsFaultOfSizes set text) one_cause (λ a m f c. sizes_or_cause a.tree a.bounds a.prog a.expanded f m.sized_to c)

  -- two expansions of the text are one
  same_expansion : (x : Expansion) (t : Tree) (b : Bounds) (p : Prog) (e : Expanded) → IsTypedAs set text x.tree x.bounds x.prog → x.expanded ≡ expand x.prog x.bounds → IsTypedAs set text t b p → e ≡ expand p b → IsExpansion t b p e x
  same_expansion x t b p e typed is also that =
      let same = one_program x.tree t x.bounds b x.prog p typed also in
      let once_expanded : x.expanded ≡ e = is ∙ one_expansion x.tree t x.bounds b x.prog p typed also ∙ sym that in
      λ i. record { tree = same.0 i; bounds = same.1 i; prog = same.2 i; expanded = once_expanded i }

  pub program_taken : (r : Result Typed SketchFault) → IfOk r (Means set text) → IfErr r (IsFaultOfProgram set text) → (t : Tree) (b : Bounds) (p : Prog) → IsTypedAs set text t b p → MatchResult r (IsTyped t b p) IsMemory
  program_taken r found is t b p typed = taken_as (Means set text) (IsTyped t b p) (IsFaultOfProgram set text) (λ a m. let same = one_program a.tree t a.bounds b a.prog p m.typed_as typed in λ i. record { tree = same.0 i; bounds = same.1 i; prog = same.2 i }) (λ f c. meaning_or_cause t b p f typed c) r found is

  pub expansion_taken : (r : Result Expansion SketchFault) → IfOk r (Expands set text) → IfErr r (IsFaultOfExpansion set text) → (t : Tree) (b : Bounds) (p : Prog) (e : Expanded) → IsExpandedTo set text t b p e → MatchResult r (IsExpansion t b p e) IsMemory
  expansion_taken r found is t b p e that = taken_as (Expands set text) (IsExpansion t b p e) (IsFaultOfExpansion set text) (λ a m. same_expansion a t b p e m.expanded_to.typed m.expanded_to.is that.typed that.is) (λ f c. expansion_or_cause t b p e f that c) r found is

  pub sized_taken : (r : Result Expansion SketchFault) → IfOk r (ExpandsWithin set text) → IfErr r (IsFaultOfSizes set text) → (t : Tree) (b : Bounds) (p : Prog) (e : Expanded) → IsSizedTo set text t b p e → MatchResult r (IsExpansion t b p e) IsMemory
  sized_taken r found is t b p e that = taken_as (ExpandsWithin set text) (IsExpansion t b p e) (IsFaultOfSizes set text) (λ a m. same_expansion a t b p e m.sized_to.typed m.sized_to.is that.typed that.is) (λ f c. sizes_or_cause t b p e f that c) r found is

  -- What the steps of the code answer

  pub not_expanded : (a : Typed) (f : SizeFault) → Means set text a → HasCause a.prog a.bounds f → IsFaultOfExpansion set text (too_large f)
  unfolding expand
  not_expanded a size.Copies m cause = record { tree = a.tree; bounds = a.bounds; prog = a.prog; typed = m.typed_as; over = cause }
  not_expanded a size.Sites m cause = record { tree = a.tree; bounds = a.bounds; prog = a.prog; typed = m.typed_as; over = (cause.few_nodes, cause.more) }
  not_expanded a size.Steps m cause = absurd cause
  not_expanded a size.News m cause = absurd cause
  not_expanded a size.Memory m cause = tt

  -- the expansion of an answer is too large for this
  large : (x : Expansion) (r : SizeFault) → Expands set text x → IsOver r x.expanded x.bounds → IsTooLarge set text r
  large x r m over = record { tree = x.tree; bounds = x.bounds; prog = x.prog; typed = m.expanded_to.typed; over = subst (λ e. IsOver r e x.bounds) m.expanded_to.is over }

  pub not_sized : (x : Expansion) (f : SizeFault) → Expands set text x → (IsTrue (is_steps f) → most_steps < steps x.bounds x.expanded) → (IsTrue (is_news f) → (steps x.bounds x.expanded ≤ most_steps) × (most_news < news x.bounds x.expanded)) → IsTrue (not (is_copies f || is_sites f)) → IsFaultOfSizes set text (too_large f)
  not_sized x size.Copies m by_steps by_news other = absurd (false≢true other)
  not_sized x size.Sites m by_steps by_news other = absurd (false≢true other)
  not_sized x size.Steps m by_steps by_news other = large x size.Steps m (m.expanded_to.nodes_fit, m.expanded_to.sites_fit, by_steps refl)
  not_sized x size.News m by_steps by_news other = let over = by_news refl in large x size.News m (m.expanded_to.nodes_fit, m.expanded_to.sites_fit, over.0, over.1)
  not_sized x size.Memory m by_steps by_news other = tt
