-- What a text comes to, and what a source comes to.
use Rattle.std.specs.Prelude.{ℕ, ◌≤◌, Bool, List, length, Option, IfSome}
use Rattle.sk_base.specs.Stream.{Rose}
use Rattle.sk_base.specs.declared.bounds.Budget.{Budget}
use Rattle.sk_opts.specs.declared.line.Set.{Set}
use Rattle.sk_front.specs.Texts.{most_bytes, HasSpan, IsTextFault}
use Rattle.sk_front.specs.Front.{IsUntyped, IsTooLarge}
use Rattle.sk_app.specs.declared.complete.Building.{Building}
use Rattle.sk_app.specs.declared.complete.Building.TheVariants as built
use Rattle.sk_app.specs.declared.prepare.Found.{Found}
use Rattle.sk_app.specs.declared.prepare.Found.TheVariants as found
use Rattle.sk_app.specs.declared.prepare.Prepared.{Prepared}
use Rattle.sk_app.specs.declared.prepare.Prepared.TheVariants as prepared
use Rattle.sk_app_reading.specs.Streams.{IsLong}
use Rattle.sk_all_text.specs.Built.{IsReady}
use Rattle.sk_app.specs.Results.{HasResult, IsResultOf}

-- what is built of a text with these options, or why nothing is
abbrev pub IsBuilding : Set → Building → List ℕ → Type 0
IsBuilding set (built.NotText fault) text = IsTextFault fault text
IsBuilding set (built.NotTyped fault) text = IsUntyped set text × HasSpan text fault.span
IsBuilding set (built.TooLarge reason) text = IsTooLarge set text reason
IsBuilding set (built.Whole bounds e) text = IsReady set text bounds e

abbrev pub IsFound : Set → Budget → Bool → Found → List ℕ → Type 0
IsFound set budget cert (found.NotText fault) text = IsTextFault fault text
IsFound set budget cert (found.NotTyped fault) text = IsUntyped set text × HasSpan text fault.span
IsFound set budget cert (found.TooLarge reason) text = IsTooLarge set text reason
IsFound set budget cert (found.Ended out ending) text = IsResultOf set budget cert text ending out.items

-- what is found ends a line with these budgets, whatever the text is
abbrev pub IsPossible : Budget → Found → Type 0
IsPossible budget (found.Ended out ending) = HasResult budget ending
IsPossible budget _ = Unit {0}

-- a text that is not too long, and what it comes to with these options and budgets
pub record Finds (set : Set) (budget : Budget) (cert : Bool) (f : Found) (text : List ℕ) : Type 0 where
  pub short : length text ≤ most_bytes
  pub found : IsFound set budget cert f text

abbrev pub IsPrepared : Set → Budget → Bool → Prepared → ℕ → ℕ → Option (List ℕ) → Type 0
IsPrepared set budget cert prepared.ReadFault faults_old faults_new left = Rose faults_old faults_new
IsPrepared set budget cert prepared.TooLong faults_old faults_new left = IsLong most_bytes left
IsPrepared set budget cert (prepared.Found f) faults_old faults_new left = IsPossible budget f × IfSome left (Finds set budget cert f)
