-- How an entry, the walk's result for an event, stands for the set of origins that are allowed.
use Rattle.std.specs.Prelude.{◌≡◌, ◌≢◌, ℕ, ◌==◌, Bool, true, false, List, if◌then◌else◌}
use Rattle.node_machine.specs.declared.types.Seen.{Seen}
use Rattle.node_machine.specs.Readings.{is_receipt}
use Rattle.node_machine.specs.Origins.{Can, TokenOrigin}
use Rattle.node_machine.specs.Origins.{Follows as FollowsEvent, Home as AtHome}
use Rattle.node_origins.specs.declared.origin.EventOrigins.{EventOrigins}
use Rattle.node_origins.specs.declared.origin.EventOrigins.TheVariants as origins
use Rattle.node_origins.specs.declared.origin.StampOrigin.{StampOrigin}
use Rattle.node_origins.specs.declared.origin.StampOrigin.TheVariants as stamp_origin

abbrev pub origin_of : StampOrigin → TokenOrigin
origin_of stamp_origin.Home = AtHome
origin_of (stamp_origin.Follows k) = FollowsEvent k

-- a set of origins has no member, the one origin alone, or both origins (which differ) and maybe
-- more
abbrev pub HasNoOrigin : (TokenOrigin → Type 0) → Type 0
HasNoOrigin Allows = (h : TokenOrigin) → ¬ (Allows h)

abbrev pub HasOneOrigin : (TokenOrigin → Type 0) → StampOrigin → Type 0
HasOneOrigin Allows h =
    Allows (origin_of h) × ((other : TokenOrigin) → Allows other → other ≡ origin_of h)

abbrev pub HasBothOrigins : (TokenOrigin → Type 0) → StampOrigin → StampOrigin → Type 0
HasBothOrigins Allows a b = Allows (origin_of a) × Allows (origin_of b) × (a ≢ b)

-- the entry stands for the set; a receive's stands for none
abbrev pub IsSummary : (TokenOrigin → Type 0) → EventOrigins → Type 0
IsSummary Allows origins.Receive = ⊥
IsSummary Allows origins.Unknown = HasNoOrigin Allows
IsSummary Allows (origins.One h) = HasOneOrigin Allows h
IsSummary Allows (origins.Several a b) = HasBothOrigins Allows a b

abbrev pub origin_eq : StampOrigin → StampOrigin → Bool
origin_eq stamp_origin.Home stamp_origin.Home = true
origin_eq (stamp_origin.Follows j) (stamp_origin.Follows k) = j == k
origin_eq a b = false

-- the entry for an origin and the origins of another entry
abbrev pub either_origin : StampOrigin → EventOrigins → EventOrigins
either_origin a (origins.One b) =
    if origin_eq a b then origins.One b else origins.Several a b
either_origin a (origins.Several b c) = origins.Several b c
either_origin a o = origins.One a

abbrev pub either_origins : EventOrigins → EventOrigins → EventOrigins
either_origins (origins.One a) o = either_origin a o
either_origins (origins.Several a b) o = origins.Several a b
either_origins n o = o

-- the entry is that of the event e at index i: a receive is named, and a stamp has the origins
-- that are allowed
abbrev pub IsEntry : List Seen → ℕ → Seen → EventOrigins → Type 0
IsEntry es i e origins.Receive = is_receipt e ≡ true
IsEntry es i e o = (is_receipt e ≡ false) × IsSummary (Can es i) o
