-- What is listed, and what the rounds end with.
use Rattle.std.proofs.Common.{◌≡◌, ℕ, suc, ◌+◌, ◌<◌, ◌≤◌, List, [], ◌∷◌, ◌++◌, length, get_or, take, Option, Some, None, refl, sym, ap, subst, ◌∙◌, arith}
use Rattle.std.specs.Prelude.{All, Contains}
use Rattle.std.proofs.lemmas.List.{length-map, take_more, map-append}
use Rattle.std.proofs.lemmas.List.Elements.{All-nil, All-cons, All-map, All-weaker, All-contains, Contains-append_left, Contains-append_right, Contains-push, All-push}
use Rattle.sk_base.specs.declared.bounds.Bounds.{Bounds}
use Rattle.sk_model.specs.declared.expanded.Choice.{Choice}
use Rattle.sk_model.specs.declared.expanded.Expanded.{Expanded}
use Rattle.sk_model.specs.declared.expanded.Input.{Input}
use Rattle.sk_model.specs.declared.expanded.Site.{Site}
use Rattle.sk_model.specs.Fill.{Fits, InRange, fill}
use Rattle.sk_model.specs.Inputs.{IsInput}
use Rattle.sk_model.specs.Meets.{Meets}
use Rattle.sk_model.specs.Parts.{value}
use Rattle.sk_model.specs.Stands.{AgreeWhereStands, standing, sites_stand}
use Rattle.sk_all.specs.Formulas.{IsAskable}
use Rattle.sk_oblig_queries.specs.Queries.{IsBad, IsWanted}
use Rattle.sk_all.specs.countered.Countered.{Countered}
use Rattle.sk_all.specs.countered.Countered.TheVariants as countered
use Rattle.sk_all.specs.Countered.{IsCountered}
use Rattle.sk_loop_laws.specs.Shown.{Completes}
use Rattle.sk_loop_laws.proofs.Completing.{completes_is_wanted}
use Rattle.sk_min_laws.specs.Best.{Meeting}
use Rattle.sk_holes_marks.specs.Zeroed.{IsCanonical}
use Rattle.sk_all_exclusions.specs.declared.listed.Listed.{Listed}
use Rattle.sk_all_exclusions.specs.Exclusions.{IsListed}
use Rattle.sk_all_listing.specs.declared.answer.Listing.TheVariants as listing
use Rattle.sk_all_listing.specs.declared.rounds.Turn.{Turn}
use Rattle.sk_all_listing.specs.declared.rounds.Turn.TheVariants as turn
use Rattle.sk_all_listing.specs.Order.{inserted}
use Rattle.sk_all_listing.specs.Completions.{IsAmong, IsApart, IsListedChoice, IsListing, choices_of}
use Rattle.sk_all_listing.specs.Rounds.{AreListed, IsProposed, IsTurn, IsUnlisted}
use Rattle.sk_all_listing.proofs.Ordering.{IsOther, all_inserted, ascend_inserted, length_inserted, listed_inserted}
use Rattle.sk_all_listing.proofs.Apart.{apart_all, apart_inserted}

fits_length : (ss : List Site) (vs : List ℕ) → Fits ss vs → length vs ≡ length ss
fits_length [] [] h = refl
fits_length [] (v ∷ vs) h = absurd h
fits_length (s ∷ ss) [] h = absurd h
fits_length (s ∷ ss) (v ∷ vs) h = ap suc (fits_length ss vs h.1)

-- a choice in range that is apart from one in range is another of the same length
is_other : (e : Expanded) (bounds : Bounds) (c d : Choice) → InRange e c → IsApart e c d → IsListedChoice e bounds d → IsOther c.values d
is_other e bounds c d range apart listed = record {
  long = fits_length e.sites c.values range.fits ∙ sym (fits_length e.sites d.values listed.meeting.range.fits);
  other = λ is. apart.first (record { agree = λ i s. ap (λ (vs : List ℕ). value vs i) is });
}

-- a completion is listed, with 0 where its sites do not stand
pub listed_more : (e : Expanded) (bounds : Bounds) (ls new : List Listed) (one : Listed) (d : Choice) → AreListed e bounds ls → Meeting e bounds d → IsUnlisted e ls d → InRange e one.choice → one.marks ≡ sites_stand (standing e one.choice.values) → IsCanonical e one.choice.values → sites_stand (standing e one.choice.values) ≡ sites_stand (standing e d.values) → AgreeWhereStands e d.values one.choice.values → fill e one.choice ≡ fill e d → new ≡ inserted one ls → AreListed e bounds new
listed_more e bounds ls new one d old meeting unlisted range marked canonical same agrees filled is =
    let c : Choice = one.choice in
    let meets : Meeting e bounds c = record { range = range; meets = subst (λ p. Meets p bounds) (sym filled) meeting.meets } in
    let apart : All (IsApart e c) (choices_of ls) = apart_all e ls c d unlisted agrees same in
    let others : All (IsOther c.values) (choices_of ls) = λ i x l. is_other e bounds c (get_or (choices_of ls) i x) range (apart i x l) (old.choices.each i x l) in
    subst (λ (ms : List Listed). AreListed e bounds ms) (sym is) (record {
      marked = listed_inserted (IsListed e) one ls (record { range = range; marked = marked }) old.marked;
      choices = record {
        each = all_inserted (IsListedChoice e bounds) one ls (record { meeting = meets; canonical = canonical }) old.choices.each;
        apart = apart_inserted e one ls apart old.choices.apart;
        ascend = ascend_inserted one ls others old.choices.ascend;
      };
    })

-- one more is listed
pub one_longer : (one : Listed) (ls new : List Listed) → new ≡ inserted one ls → length new ≡ length ls + 1
one_longer one ls new is = let long : length new ≡ suc (length ls) = ap length is ∙ length_inserted one ls in omega (arith, long)

pub none_listed : (e : Expanded) (bounds : Bounds) → AreListed e bounds []
none_listed e bounds = record {
  marked = All-nil (IsListed e);
  choices = record { each = All-nil (IsListedChoice e bounds); apart = tt; ascend = tt };
}

each_there : (ls : List Listed) → All (λ (l : Listed). Contains (choices_of ls) l.choice) ls
each_there [] = All-nil (λ (l : Listed). Contains [] l.choice)
each_there (l ∷ ls) =
    All-cons (λ (k : Listed). Contains (choices_of (l ∷ ls)) k.choice) l ls
    (Contains-append_left (l.choice ∷ []) (choices_of ls) l.choice (Contains-push [] l.choice))
    (All-weaker (λ (k : Listed). Contains (choices_of ls) k.choice) (λ (k : Listed). Contains (choices_of (l ∷ ls)) k.choice) (λ k h. Contains-append_right (l.choice ∷ []) (choices_of ls) k.choice h) ls (each_there ls))

-- where nothing more is proposed, each completion agrees with one that is listed
pub all_among : (e : Expanded) (bounds : Bounds) (inputs : List Input) (ls : List Listed) → IsAskable e bounds → All (IsInput e.prog bounds) inputs → IsProposed e bounds inputs ls None → (b : Choice) → Meeting e bounds b → IsAmong e (choices_of ls) b
all_among e bounds inputs ls askable are none b meeting =
    let completes : Completes e bounds None b = record { range = meeting.range; meets = meeting.meets; within = tt } in
    let one = none b (completes_is_wanted e bounds None b inputs (askable.met b meeting.range) completes are) in
    (one.0.choice, All-contains (λ (l : Listed). Contains (choices_of ls) l.choice) ls one.0 (each_there ls) one.1, one.2)

-- what none that is listed agrees with is not among them
pub not_among : (e : Expanded) (ls : List Listed) (d : Choice) → IsUnlisted e ls d → IsAmong e (choices_of ls) d → ⊥
not_among e ls d unlisted among =
    All-contains (λ (c : Choice). AgreeWhereStands e c.values d.values → ⊥) (choices_of ls) among.0
    (All-map (λ (c : Choice). AgreeWhereStands e c.values d.values → ⊥) (λ (l : Listed). l.choice) ls unlisted.none) among.1 among.2

pub meets : (e : Expanded) (bounds : Bounds) (c : Choice) → Completes e bounds None c → Meeting e bounds c
meets e bounds c h = record { range = h.range; meets = h.meets }

-- the rounds end where nothing more is proposed
pub turn_ended : (e : Expanded) (bounds : Bounds) (inputs given : List Input) (ls listed : List Listed) (o : Option Choice) → IsAskable e bounds → All (IsInput e.prog bounds) inputs → given ≡ inputs → listed ≡ ls → o ≡ None → IsProposed e bounds given listed o → (b : Choice) → Meeting e bounds b → IsAmong e (choices_of ls) b
turn_ended e bounds inputs given ls listed o askable are same_inputs same_listed is proposed =
    let none : IsProposed e bounds given listed None = subst (λ (p : Option Choice). IsProposed e bounds given listed p) is proposed in
    let of_these : IsProposed e bounds given ls None = subst (λ (ks : List Listed). IsProposed e bounds given ks None) same_listed none in
    all_among e bounds inputs ls askable are (subst (λ (ks : List Input). IsProposed e bounds ks ls None) same_inputs of_these)

-- so many are listed, and the choice that is proposed is one more
pub turn_full : (e : Expanded) (bounds : Bounds) (given : List Input) (ls listed : List Listed) (o : Option Choice) (d : Choice) (k : Countered) (most : ℕ) → listed ≡ ls → o ≡ Some d → IsProposed e bounds given listed o → k ≡ countered.None → IsCountered e bounds d None 0 k → length ls ≤ most → most ≤ length ls → (length ls ≡ most) × ((c : Choice) × Meeting e bounds c × (IsAmong e (choices_of ls) c → ⊥))
turn_full e bounds given ls listed o d k most same is proposed none told few full =
    let two : IsWanted e bounds given None d × IsUnlisted e listed d = subst (λ (p : Option Choice). IsProposed e bounds given listed p) is proposed in
    let unlisted : IsUnlisted e ls d = subst (λ (ks : List Listed). IsUnlisted e ks d) same two.1 in
    let done : Completes e bounds None d = subst (λ (c : Countered). IsCountered e bounds d None 0 c) none told in
    (omega (arith, few, full), (d, meets e bounds d done, not_among e ls d unlisted))

-- an input that speaks against a choice is one of the program
pub input_kept : (e : Expanded) (bounds : Bounds) (d : Choice) (inputs new : List Input) (k : Countered) (input : Input) → All (IsInput e.prog bounds) inputs → k ≡ countered.Input input → IsCountered e bounds d None 0 k → new ≡ inputs ++ input ∷ [] → All (IsInput e.prog bounds) new
input_kept e bounds d inputs new k input are is told longer =
    let bad : IsBad e bounds d None input = subst (λ (c : Countered). IsCountered e bounds d None 0 c) is told in
    subst (λ (ks : List Input). All (IsInput e.prog bounds) ks) (sym longer) (All-push (IsInput e.prog bounds) inputs input are bad.is_input)

pub ruleset turning = (meets)

pub copied_next : (ls : List Listed) (i : ℕ) (d : Listed) (made longer : List Choice) → i < length ls → longer ≡ made ++ (get_or ls i d).choice ∷ [] → made ≡ choices_of (take i ls) → longer ≡ choices_of (take (i + 1) ls)
copied_next ls i d made longer below is so =
    is ∙ ap (λ (cs : List Choice). cs ++ (get_or ls i d).choice ∷ []) so
    ∙ sym (ap choices_of (take_more ls i d below) ∙ map-append (λ (l : Listed). l.choice) (take i ls) (get_or ls i d ∷ []))

pub ruleset copying = (copied_next)

-- what is answered
pub answered_all : (e : Expanded) (bounds : Bounds) (most : ℕ) (ls given : List Listed) (t : Turn) (cs : List Choice) → t ≡ turn.Ended → IsTurn e bounds most ls t → given ≡ ls → cs ≡ choices_of given → AreListed e bounds ls → length ls ≤ most → IsListing e bounds most (listing.All cs)
answered_all e bounds most ls given t cs ended told same is listed few =
    let among : (b : Choice) → Meeting e bounds b → IsAmong e (choices_of ls) b = subst (λ (u : Turn). IsTurn e bounds most ls u) ended told in
    let long : length (choices_of ls) ≡ length ls = length-map ls (λ (l : Listed). l.choice) in
    subst (λ (xs : List Choice). IsListing e bounds most (listing.All xs)) (sym (is ∙ ap choices_of same)) (listed.choices, omega (arith, long, few), among)

pub answered_more : (e : Expanded) (bounds : Bounds) (most : ℕ) (ls given : List Listed) (t : Turn) (cs : List Choice) → t ≡ turn.Full → IsTurn e bounds most ls t → given ≡ ls → cs ≡ choices_of given → AreListed e bounds ls → IsListing e bounds most (listing.More cs)
answered_more e bounds most ls given t cs is_full told same is listed =
    let full : (length ls ≡ most) × ((d : Choice) × Meeting e bounds d × (IsAmong e (choices_of ls) d → ⊥)) = subst (λ (u : Turn). IsTurn e bounds most ls u) is_full told in
    let long : length (choices_of ls) ≡ length ls = length-map ls (λ (l : Listed). l.choice) in
    subst (λ (xs : List Choice). IsListing e bounds most (listing.More xs)) (sym (is ∙ ap choices_of same)) (listed.choices, long ∙ full.0, full.1)

pub ruleset answering = (none_listed)
