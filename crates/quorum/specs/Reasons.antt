-- Why the figures of a quorum system are declined, and what a constructor answers.
use Rattle.std.specs.Prelude.{◌≡◌, ℕ, List, Some, None, Ok, Err, codes, Option, Result}
use Rattle.decline.specs.Numbers.{number_of}
use Rattle.decline.specs.declared.Decline.{Decline}
use Rattle.decline.specs.declared.Decline.TheVariants.{UnfitSystem}
use Rattle.quorum.specs.declared.unfit.Unfit.{Unfit}
use Rattle.quorum.specs.declared.unfit.Unfit.TheVariants.{NoStations, TooManyStations, TooManyFaults, NoSuchSite, TooFewSites}

-- the decline that each reason gets
abbrev pub decline_of : Unfit → Decline
decline_of NoStations = UnfitSystem
decline_of TooManyStations = UnfitSystem
decline_of TooManyFaults = UnfitSystem
decline_of (NoSuchSite site) = UnfitSystem
decline_of TooFewSites = UnfitSystem

-- the words that tell each reason
abbrev pub why : Unfit → List ℕ
why NoStations = codes "there is no station"
why TooManyStations = codes "there are more than ten stations"
why TooManyFaults = codes "three times the faulty stations must be fewer than all stations"
why (NoSuchSite site) = codes "site numbers are 0 to 9"
why TooFewSites = codes "at least four sites must occur"

-- a system as P says where nothing bars it, and otherwise the first reason that does
abbrev pub MadeUnless : {S : Type 0} → Option Unfit → (S → Type 0) → Result S Unfit → Type 0
MadeUnless bar P (Ok system) = (bar ≡ None) × P system
MadeUnless bar P (Err reason) = bar ≡ Some reason

-- a reason that is answered has this decline number
abbrev pub DeclinedWith : {S : Type 0} → ℕ → Result S Unfit → Type 0
DeclinedWith number (Ok system) = Unit {0}
DeclinedWith number (Err reason) = number_of (decline_of reason) ≡ number
