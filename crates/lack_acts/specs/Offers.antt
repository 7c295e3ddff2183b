-- Counts that processes pass anyway, and gaps that a message with such a count shortens.
use Rattle.std.specs.Prelude.{◌≡◌, ℕ, ◌-◌, ◌≤◌, List, Some, slice_get}
use Rattle.lack_acts.specs.declared.climbs.Wish.{Wish}
use Rattle.lack_acts.specs.declared.gaps.Gap.{Gap}
use Rattle.lack_acts.specs.declared.offers.Offer.{Offer}
use Rattle.lack_acts.specs.Gaps.{target}

-- the counts that the process of the gap passes one by one
abbrev pub offer_of : Gap → ℕ → Offer
offer_of g number = record { next = g.serial.this - 1; low = g.start; gap = number }

-- the rest of an offer has the gap of the offer, and no counts above those of the offer
pub record IsRestOf (offer rest : Offer) : Type 0 where
  pub next : rest.next ≤ offer.next
  pub low : rest.low ≡ offer.low
  pub gap : rest.gap ≡ offer.gap

-- the wish is for a message that its gap can take
pub record IsWishFor (gaps : List Gap) (wish : Wish) : Type 0 where
  pub gap : Gap
  pub at : slice_get gaps wish.gap ≡ Some gap
  pub target : target gap ≡ Some wish.target
