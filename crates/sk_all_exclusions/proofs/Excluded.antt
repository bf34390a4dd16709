-- What the clauses exclude.
use Rattle.std.proofs.Common.{◌≡◌, ℕ, zero, suc, ◌+◌, ◌<◌, ◌≤◌, ◌^◌, Bool, true, false, List, [], ◌∷◌, ◌++◌, map, length, get_or, take, Some, refl, sym, ap, subst, ◌∙◌, append_assoc, arith}
use Rattle.std.specs.Prelude.{All, Contains, IsTrue, slice_get}
use Rattle.std.specs.List.{sum}
use Rattle.std.proofs.lemmas.Bool.{false≢true, and_parts, ltb-true}
use Rattle.std.proofs.lemmas.List.{take_more, take_all, map-append, append-nil, length-map}
use Rattle.std.proofs.lemmas.List.Elements.{All-nil, All-cons, All-head, All-tail, All-append, All-contains, Contains-get_or, Contains-append_left, Contains-append_right, Contains-push}
use Rattle.std.proofs.lemmas.Option.{none-some}
use Rattle.sk_clause.specs.declared.lit.Lit.{Lit}
use Rattle.sk_clause.specs.Meaning.{Meets, clause_true}
use Rattle.sk_cnf.specs.declared.growing.Encoded.{Encoded}
use Rattle.sk_model.specs.declared.expanded.Expanded.{Expanded}
use Rattle.sk_model.specs.declared.expanded.Site.{Site}
use Rattle.sk_model.specs.Fill.{Fits}
use Rattle.sk_model.specs.Parts.{value}
use Rattle.sk_model.specs.Stands.{standing, sites_stand}
use Rattle.sk_expand_sites.specs.Needs.{is_narrow, are_narrow}
use Rattle.sk_oblig_queries.specs.Numbers.{bits_of_size}
use Rattle.sk_oblig_queries.specs.Widths.{sites_widths}
use Rattle.sk_oblig_queries.proofs.Powers.{bits_most}
use Rattle.sk_oblig_queries.proofs.Spoken.{size_reached}
use Rattle.sk_all_exclusions.specs.declared.listed.Listed.{Listed}
use Rattle.sk_all_exclusions.specs.Exclusions.{HasNames, IsListed, exclusion, exclusions}
use Rattle.sk_all_exclusions.specs.Laws.{AreExact, ExclusionIsExact, IsAgreed}
use Rattle.sk_all_exclusions.proofs.Exact.{agreed_where_false, false_where_agreed}

-- the values of a choice in range are small enough for the bits of their sites
fits_at : (ss : List Site) (vs : List ℕ) → IsTrue (are_narrow ss) → Fits ss vs → (i w : ℕ) → slice_get (sites_widths ss) i ≡ Some w → (w ≤ 64) × (value vs i < 2 ^ w)
fits_at [] vs narrow h i w is = absurd (none-some w is)
fits_at (s ∷ ss) [] narrow h i w is = absurd h
fits_at (s ∷ ss) (v ∷ vs) narrow h zero w is =
    let both = and_parts (is_narrow s) (are_narrow ss) narrow in
    let below = ltb-true s.size 4294967297 both.0 in
    let small : s.size ≤ 2 ^ 64 = omega (arith, below) in
    let width : bits_of_size s.size ≡ w = cc is in
    let reached = size_reached s.size small in
    subst (λ k. (k ≤ 64) × (v < 2 ^ k)) width (bits_most s.size, omega (arith, h.0, reached))
fits_at (s ∷ ss) (v ∷ vs) narrow h (suc i) w is = fits_at ss vs (and_parts (is_narrow s) (are_narrow ss) narrow).1 h.1 i w is

fits_length : (ss : List Site) (vs : List ℕ) → Fits ss vs → length vs ≡ length ss
fits_length [] [] h = refl
fits_length [] (v ∷ vs) h = absurd h
fits_length (s ∷ ss) [] h = absurd h
fits_length (s ∷ ss) (v ∷ vs) h = ap suc (fits_length ss vs h.1)

pub exact : ExclusionIsExact
exact e names choice narrow range long v =
    let ws : List ℕ = sites_widths e.sites in
    let marks : List Bool = sites_stand (standing e choice.values) in
    let small = fits_at e.sites choice.values narrow range.fits in
    let as_many : length ws ≡ length e.sites = length-map e.sites (λ (s : Site). bits_of_size s.size) in
    let past : length choice.values ≤ length ws = omega (arith, fits_length e.sites choice.values range.fits, as_many) in
    let room : sum ws ≤ length names = omega (arith, long) in (
      λ h. record { agree = λ i stands. agreed_where_false v marks choice.values ws names past room small h i stands.stands },
      λ agreed. false_where_agreed v marks choice.values ws names room small (λ i stands. agreed.agree i (record { stands = stands })),
    )

module _ (e : Expanded) (names : List ℕ) (v : ℕ → Bool) where
  abbrev True : List Lit → Type 0
  True c = clause_true v c ≡ true

  abbrev Apart : Listed → Type 0
  Apart l = IsAgreed e names l.choice v → ⊥

  abbrev clause_of : Listed → List Lit
  clause_of l = exclusion e names l.choice

  true_of : (b : Bool) → (b ≡ false → ⊥) → b ≡ true
  true_of true h = refl
  true_of false h = absurd (h refl)

  each_out : (ls : List Listed) → IsTrue (are_narrow e.sites) → length names ≡ sum (sites_widths e.sites) → All (IsListed e) ls → All True (map clause_of ls) → All Apart ls
  each_out [] narrow long listed h = All-nil Apart
  each_out (l ∷ ls) narrow long listed h =
      let law = exact e names l.choice narrow (All-head (IsListed e) l ls listed).range long v in
      All-cons Apart l ls
      (λ agreed. absurd (false≢true (sym (law.1 agreed) ∙ All-head True (clause_of l) (map clause_of ls) h)))
      (each_out ls narrow long (All-tail (IsListed e) l ls listed) (All-tail True (clause_of l) (map clause_of ls) h))

  each_in : (ls : List Listed) → IsTrue (are_narrow e.sites) → length names ≡ sum (sites_widths e.sites) → All (IsListed e) ls → All Apart ls → All True (map clause_of ls)
  each_in [] narrow long listed h = All-nil True
  each_in (l ∷ ls) narrow long listed h =
      let law = exact e names l.choice narrow (All-head (IsListed e) l ls listed).range long v in
      All-cons True (clause_of l) (map clause_of ls)
      (true_of (clause_true v (clause_of l)) (λ none. All-head Apart l ls h (law.0 none)))
      (each_in ls narrow long (All-tail (IsListed e) l ls listed) (All-tail Apart l ls h))

  -- where not all clauses are true, one is false
  some_agreed : (ls : List Listed) → IsTrue (are_narrow e.sites) → length names ≡ sum (sites_widths e.sites) → All (IsListed e) ls → (All True (map clause_of ls) → ⊥) → (l : Listed) × Contains ls l × IsAgreed e names l.choice v
  some_agreed [] narrow long listed none = absurd (none (All-nil True))
  some_agreed (l ∷ ls) narrow long listed none =
      by (clause_true v (clause_of l)) refl (some_agreed ls narrow long (All-tail (IsListed e) l ls listed))
    where
      by : (b : Bool) → clause_true v (clause_of l) ≡ b → ((All True (map clause_of ls) → ⊥) → (k : Listed) × Contains ls k × IsAgreed e names k.choice v) → (k : Listed) × Contains (l ∷ ls) k × IsAgreed e names k.choice v
      by true is rest =
          let r = rest (λ all. none (All-cons True (clause_of l) (map clause_of ls) is all)) in
          (r.0, Contains-append_right (l ∷ []) ls r.0 r.1, r.2)
      by false is rest = (l, Contains-append_left (l ∷ []) ls l (Contains-push [] l), (exact e names l.choice narrow (All-head (IsListed e) l ls listed).range long v).0 is)

all_true : (v : ℕ → Bool) (cs : List (List Lit)) → Meets v cs → All (λ c. clause_true v c ≡ true) cs
all_true v cs met i d l = met (get_or cs i d) (Contains-get_or cs i d l)

met_by : (v : ℕ → Bool) (cs : List (List Lit)) → All (λ c. clause_true v c ≡ true) cs → Meets v cs
met_by v cs all c h = All-contains (λ c. clause_true v c ≡ true) cs c all h

met_front : (v : ℕ → Bool) (fs es : List (List Lit)) → Meets v (fs ++ es) → Meets v fs
met_front v fs es met c h = met c (Contains-append_left fs es c h)

met_back : (v : ℕ → Bool) (fs es : List (List Lit)) → Meets v (fs ++ es) → Meets v es
met_back v fs es met c h = met c (Contains-append_right fs es c h)

met_both : (v : ℕ → Bool) (fs es : List (List Lit)) → Meets v fs → Meets v es → Meets v (fs ++ es)
met_both v fs es one other = met_by v (fs ++ es) (All-append (λ c. clause_true v c ≡ true) fs es (all_true v fs one) (all_true v es other))

-- the clauses that are added exclude what is listed, and nothing else
pub are_exact : (e : Expanded) (f g : Encoded) (listed : List Listed) → IsTrue (are_narrow e.sites) → HasNames f e → All (IsListed e) listed → g.clauses.clauses ≡ f.clauses.clauses ++ exclusions e f.names listed → AreExact e f g listed
are_exact e f g listed narrow has all is =
    let fs : List (List Lit) = f.clauses.clauses in
    let es : List (List Lit) = exclusions e f.names listed in
    record {
      met = λ v. (
        λ met. let both : Meets v (fs ++ es) = subst (Meets v) is met in (met_front v fs es both, each_out e f.names v listed narrow has.named all (all_true v es (met_back v fs es both))),
        λ two. subst (Meets v) (sym is) (met_both v fs es two.0 (met_by v es (each_in e f.names v listed narrow has.named all two.1))),
      );
      unmet = λ v old none. some_agreed e f.names v listed narrow has.named all (λ trues. none (subst (Meets v) (sym is) (met_both v fs es old (met_by v es trues))));
    }

-- one more clause
pub excluded_next : (e : Expanded) (names now : List ℕ) (listed : List Listed) (i : ℕ) (d : Listed) (old made longer : List (List Lit)) → i < length listed
    → now ≡ names
    → longer ≡ made ++ exclusion e now (get_or listed i d).choice ∷ []
    → made ≡ old ++ exclusions e names (take i listed)
    → longer ≡ old ++ exclusions e names (take (i + 1) listed)
excluded_next e names now listed i d old made longer below same is so =
    let one : List (List Lit) = exclusion e names (get_or listed i d).choice ∷ [] in
    is ∙ ap (λ ns. made ++ exclusion e ns (get_or listed i d).choice ∷ []) same
    ∙ ap (λ cs. cs ++ one) so
    ∙ append_assoc old (exclusions e names (take i listed)) one
    ∙ ap (λ cs. old ++ cs) (sym (ap (exclusions e names) (take_more listed i d below) ∙ map-append (λ (l : Listed). exclusion e names l.choice) (take i listed) (get_or listed i d ∷ [])))

pub names_stay : (e : Expanded) (f g : Encoded) → HasNames f e → g.names ≡ f.names → g.clauses.vars ≡ f.clauses.vars → HasNames g e
names_stay e f g has names vars = record {
  named = ap length names ∙ has.named;
  within = λ i d l. subst (λ m. get_or g.names i d < m) (sym vars) (subst (λ (ns : List ℕ). All (λ x. x < f.clauses.vars) ns) (sym names) has.within i d l);
}

pub excluded_all : (e : Expanded) (names : List ℕ) (listed : List Listed) (i : ℕ) (old made : List (List Lit)) → length listed ≤ i → made ≡ old ++ exclusions e names (take i listed) → made ≡ old ++ exclusions e names listed
excluded_all e names listed i old made end so = so ∙ ap (λ ls. old ++ exclusions e names ls) (take_all i listed end)

pub excluded_none : (e : Expanded) (names : List ℕ) (old : List (List Lit)) → old ≡ old ++ exclusions e names []
excluded_none e names old = sym (append-nil old)

pub ruleset excluded = (excluded_next, names_stay, excluded_all, excluded_none)
