-- What is told of a text that has completions, and of one that has none.
use Rattle.std.proofs.Common.{◌≡◌, ℕ, ◌≤◌, inl, inr, List, ◌∷◌, length, sym, subst}
use Rattle.std.specs.Prelude.{All}
use Rattle.std.proofs.lemmas.List.Elements.{All-cons, All-weaker, All-contains}
use Rattle.sk_base.specs.declared.bounds.Bounds.{Bounds}
use Rattle.sk_model.specs.declared.expanded.Choice.{Choice}
use Rattle.sk_model.specs.declared.expanded.Expanded.{Expanded}
use Rattle.sk_model.specs.declared.expanded.Input.{Input}
use Rattle.sk_min_laws.specs.Best.{Meeting}
use Rattle.sk_all_listing.specs.Formulas.{IsAskable}
use Rattle.sk_opts.specs.declared.line.Set.{Set}
use Rattle.sk_front.specs.declared.expansion.Expansion.{Expansion}
use Rattle.sk_front.specs.Front.{ExpandsWithin}
use Rattle.sk_built_laws.proofs.Taken.{askable, for_answered, ready_of}
use Rattle.sk_all_listing.specs.answer.Why.TheVariants as why
use Rattle.sk_all_listing.specs.Reasons.{IsWhy}
use Rattle.sk_all_listing.specs.declared.answer.Listing.{Listing}
use Rattle.sk_all_listing.specs.declared.answer.Listing.TheVariants as listing
use Rattle.sk_all_listing.specs.Completions.{IsListedChoice}
use Rattle.sk_all_listing.specs.Completions.{IsListing as Lists}
use Rattle.sk_all_text.specs.declared.reasons.Reasons.{Reasons}
use Rattle.sk_all_text.specs.declared.reasons.Reasons.TheVariants as reasons
use Rattle.sk_all_text.specs.AllLines.{inputs_text, met_text, listing_text}
use Rattle.sk_all_text.specs.AllTexts.{NoneMeets, TellsInputs, TellsMeeting, TellsReasons, TellsAll, TellsMore, TellsListing, HasAtMost, IsReasons, IsListing, IsExplained, IsMet}
use Rattle.sk_all_text.proofs.Counting.{more_than}

-- what is answered for a text

pub askable_of : (set : Set) (text : List ℕ) (x : Expansion) → ExpandsWithin set text x → IsAskable x.expanded x.bounds
askable_of set text x means = askable set text x.bounds x.expanded (ready_of set text x means)

pub reasons_of : (set : Set) (text : List ℕ) (x : Expansion) (r : Reasons) → ExpandsWithin set text x → TellsReasons r x.bounds x.expanded → IsReasons set text r
reasons_of set text x r means told = for_answered set text x (TellsReasons r) means told

pub listing_of : (set : Set) (most : ℕ) (text : List ℕ) (x : Expansion) (out : List ℕ) → ExpandsWithin set text x → TellsListing most out x.bounds x.expanded → IsListing set most text out
listing_of set most text x out means told = for_answered set text x (TellsListing most out) means told

module _ (bounds : Bounds) (e : Expanded) where
  -- what is answered for an expansion

  pub tells_inputs : (inputs : List Input) (out : List ℕ) → IsWhy e bounds (why.Inputs inputs) → out ≡ inputs_text inputs → TellsInputs out bounds e
  tells_inputs inputs out h is = record { inputs = inputs; explains = h.0; none = h.1; is = is }

  pub tells_meeting : (c : Choice) (out : List ℕ) → IsWhy e bounds (why.Met c) → out ≡ met_text c → TellsMeeting out bounds e
  tells_meeting c out h is = record { choice = c; meeting = h; is = is }

  -- what is told, in the other direction

  pub is_met : (c : Choice) → Meeting e bounds c → (r : Reasons) → TellsReasons r bounds e → IsMet r
  is_met c meets (reasons.Explained out) told = told.none c meets
  is_met c meets (reasons.Met out) told = tt

  pub is_explained : NoneMeets e bounds → (r : Reasons) → TellsReasons r bounds e → IsExplained r
  is_explained none (reasons.Explained out) told = tt
  is_explained none (reasons.Met out) told = none told.choice told.meeting

  module _ (most : ℕ) where
    pub tells_listing : (out : List ℕ) (l : Listing) → Lists e bounds most l → out ≡ listing_text l → TellsListing most out bounds e
    tells_listing out (listing.All cs) h is = inl (record { choices = cs; listed = h.0; few = h.1; whole = h.2; is = is })
    tells_listing out (listing.More cs) h is = let d = h.2 in inr (record { choices = cs; listed = h.0; full = h.1; other = d.0; meeting = d.1; unlisted = d.2; is = is })

    -- where there are more choices than were asked for, there are not at most so many
    pub too_many : (out : List ℕ) → TellsMore most out bounds e → HasAtMost most bounds e → ⊥
    too_many out x h =
        let each : All (Meeting e bounds) (x.other ∷ x.choices) = All-cons (Meeting e bounds) x.other x.choices x.meeting (All-weaker (IsListedChoice e bounds) (Meeting e bounds) (λ c l. l.meeting) x.choices x.listed.each) in
        more_than e x.choices x.other h.choices x.listed.apart x.unlisted (λ b there. h.whole b (All-contains (Meeting e bounds) (x.other ∷ x.choices) b each there)) (subst (λ n. length h.choices ≤ n) (sym x.full) h.few)

    pub is_all : HasAtMost most bounds e → (out : List ℕ) → TellsListing most out bounds e → TellsAll most out bounds e
    is_all h out (inl x) = x
    is_all h out (inr x) = absurd (too_many out x h)

    pub at_most : (out : List ℕ) → TellsAll most out bounds e → HasAtMost most bounds e
    at_most out x = record { choices = x.choices; few = x.few; whole = x.whole }

    pub is_more : (HasAtMost most bounds e → ⊥) → (out : List ℕ) → TellsListing most out bounds e → TellsMore most out bounds e
    is_more none out (inl x) = absurd (none (at_most out x))
    is_more none out (inr x) = x
