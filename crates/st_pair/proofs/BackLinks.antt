-- Filling in a receiver exchanges one link, so the links before it are those with receivers and
-- the links from it on those without.
use Rattle.std.proofs.Common.{◌≡◌, ℕ, ◌+◌, ◌++◌, zero, suc, true, List, [], ◌∷◌, map, take, drop}
use Rattle.std.proofs.Common.{set, None, Some, slice_get, option_map, refl, sym, ◌∙◌, ap, arith}
use Rattle.std.proofs.lemmas.Option.{none-some, same_Some}
use Rattle.st_core.specs.declared.types.Pid.{Pid}
use Rattle.st_core.specs.declared.types.Event.{Event}
use Rattle.st_core.specs.declared.types.Kind.{Kind}
use Rattle.st_core.specs.declared.types.Kind.TheVariants as kind
use Rattle.st_core.specs.Run.{Stream}
use Rattle.st_pair.specs.declared.pairing.Link.{Link}
use Rattle.st_pair.specs.declared.pairing.Link.TheVariants as link
use Rattle.st_pair.specs.Links.{received_link}
use Rattle.st_pair.specs.Pairing.{not_rising, stamp_of}
use Rattle.st_pair.specs.Places.{event_at, first, is_stamp}
use Rattle.st_pair.specs.Tables.{key_in, link_back, sent_in, stamp_index}
use Rattle.st_pair.proofs.Converse.{stamp_alone}

-- ONE MORE IS EXCHANGED

module _ {A B : Type 0} (f g : A → B) where
  exchange : (xs : List A) (k : ℕ) (x : A) (y : B) → slice_get xs k ≡ Some x → y ≡ f x
      → set (map f (take k xs) ++ map g (drop k xs)) k y ≡ map f (take (suc k) xs)
      ++ map g (drop (suc k) xs)
  exchange [] k x y at is = absurd (none-some x at)
  exchange (z ∷ xs) zero x y at is = ap (λ b. b ∷ map g xs) (is ∙ ap f (sym (same_Some z x at)))
  exchange (z ∷ xs) (suc k) x y at is = ap (λ bs. f z ∷ bs) (exchange xs k x y at is)

  pub exchanged : (xs : List A) (k : ℕ) (x : A) (y : B) (before : List B) → slice_get xs k ≡ Some x
      → y ≡ f x
      → before ≡ map f (take k xs) ++ map g (drop k xs)
      → set before k y ≡ map f (take (k + 1) xs) ++ map g (drop (k + 1) xs)
  exchanged xs k x y before at is far =
      let next : suc k ≡ k + 1 = omega arith in
      ap (λ bs. set bs k y) far ∙ exchange xs k x y at is
      ∙ ap (λ n. map f (take n xs) ++ map g (drop n xs)) next

  -- the next link is still the one without a receiver
  pub still : (xs : List A) (k : ℕ) (x : A) (before : List B) → slice_get xs k ≡ Some x
      → before ≡ map f (take k xs) ++ map g (drop k xs) → slice_get before k ≡ Some (g x)
  still xs k x before at far = ap (λ bs. slice_get bs k) far ∙ here xs k at where
    here : (xs : List A) (k : ℕ) → slice_get xs k ≡ Some x
        → slice_get (map f (take k xs) ++ map g (drop k xs)) k ≡ Some (g x)
    here [] k at = absurd (none-some x at)
    here (z ∷ xs) zero at = ap (λ y. Some (g y)) (same_Some z x at)
    here (z ∷ xs) (suc k) at = here xs k at

-- WHAT A LINK SAYS

-- the link of a receive has the index of its send or print
pub sent_back : (streams : List Stream) (e : Event) → e.kind ≡ kind.Receive
    → sent_in (link_back streams e) ≡ stamp_index streams (key_in e)
sent_back streams e is = ap (λ (k : Kind). (let l : Link = elim k [
  | kind.Send ↦ link.Unpaired
  | kind.Receive ↦ received_link e.from (stamp_of streams e.from e.serial.this)
  | kind.Print ↦ link.Printed
] in sent_in l)) is ∙ elim (stamp_of streams e.from e.serial.this)
    as (λ o. sent_in (received_link e.from o) ≡ option_map (λ (f : ℕ × Event). f.0) o) [
      | None ↦
          refl
      | Some f ↦ refl
    ]

-- the key of a send or print leads to its own index
pub own_index : (streams : List Stream) (p : Pid) (i : ℕ) (e : Event)
    → first (not_rising streams) streams ≡ None
    → event_at streams p i ≡ Some e → is_stamp e ≡ true
    → stamp_index streams (record { from = p; this = e.serial.this }) ≡ Some i
own_index streams p i e rising at stamps =
    ap (option_map (λ (f : ℕ × Event). f.0)) (stamp_alone streams rising p i e at stamps)
