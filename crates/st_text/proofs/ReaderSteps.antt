-- A reader on its way: the calls so far gave some bytes in a row, its feed was fed them, and it
-- asks for no byte past the first one too many.
use Rattle.std.proofs.Common.{◌≡◌, ℕ, ◌+◌, ◌≤◌, Bool, List, [], ◌++◌, length, Option, Some, None}
use Rattle.std.proofs.Common.{refl, sym, ap, ◌∙◌, append_assoc}
use Rattle.std.specs.Prelude.{Result, Err}
use Rattle.std.proofs.lemmas.List.{append-nil}
use Rattle.st_core.specs.Device.{InARow}
use Rattle.st_text.specs.declared.bundle.Bundle.{Bundle}
use Rattle.st_text.specs.declared.fault.ReadFault.{ReadFault}
use Rattle.st_text.specs.declared.fault.ReadFault.TheVariants as faults
use Rattle.st_text.specs.declared.feed.Feed.{Feed}
use Rattle.st_text.specs.Answer.{IsReadResult}
use Rattle.st_text.specs.Growth.{Grows}
use Rattle.st_text.specs.Fed.{WasFed, fed_refusal}
use Rattle.st_text.specs.Reads.{HadGrowth}
use Rattle.st_text.proofs.TextFaults.{no_memory}
use Rattle.st_text.specs.declared.limits.Limits.{Limits}

pub record IsReading (limits : Limits) {S : Type 0} (gives : S → List ℕ → S → Type 0)
    (failed : S → Bool) (old now : S) (feed : Feed)
    (left : ℕ) (buffer : List ℕ) : Type 0 where
  pub bytes : List ℕ
  pub given : InARow gives old bytes now
  pub fed : WasFed bytes feed
  pub counted : length bytes + left ≡ limits.bytes
  pub limits_are : feed.limits ≡ limits
  pub size : length buffer ≡ 8192
  pub mark : failed now ≡ failed old
  pub memory : fed_refusal feed ≡ Some faults.Memory → HadGrowth limits gives bytes old

-- a new feed has refused nothing
pub never_fresh : (o : Option ReadFault) (f : ReadFault) → o ≡ None → o ≡ Some f → ⊥
never_fresh o f e g = cc

-- growth stays growth after more bytes came
later_growth : (limits : Limits) {S : Type 0} (gives : S → List ℕ → S → Type 0) (old : S)
    (bytes more : List ℕ)
    → HadGrowth limits gives bytes old → HadGrowth limits gives (bytes ++ more) old
later_growth limits gives old bytes more h =
    record {
      before = h.before;
      piece = h.piece;
      after = h.after ++ more;
      parts = ap (λ (x : List ℕ). x ++ more) h.parts ∙ append_assoc h.before (h.piece ++ h.after)
          more
          ∙ ap (λ (x : List ℕ). h.before ++ x) (append_assoc h.piece h.after more);
      from = h.from;
      to = h.to;
      earlier = h.earlier;
      call = h.call;
      growth = h.growth;
    }

-- if memory has run out after one more piece, it ran out in that piece or before it
pub growth_after : (limits : Limits) {S : Type 0} (gives : S → List ℕ → S → Type 0)
    (old now next : S) (bytes piece : List ℕ) (was is : Option ReadFault)
    → InARow gives old bytes now → gives now piece next
    → (was ≡ Some faults.Memory → HadGrowth limits gives bytes old)
    → (was ≡ None → is ≡ Some faults.Memory → Grows limits bytes piece)
    → ((f : ReadFault) → was ≡ Some f → is ≡ Some f)
    → is ≡ Some faults.Memory → HadGrowth limits gives (bytes ++ piece) old
growth_after limits gives old now next bytes piece None is row call before here again ran =
    record {
      before = bytes;
      piece = piece;
      after = [];
      parts = ap (λ (x : List ℕ). bytes ++ x) (sym (append-nil piece));
      from = now;
      to = next;
      earlier = row;
      call = call;
      growth = here refl ran;
    }
growth_after limits gives old now next bytes piece (Some f) is row call before here again ran =
    later_growth limits gives old bytes piece (before (sym (again f refl) ∙ ran))

-- if the result at the end is Memory, the feed had refused with Memory before
pub growth_at_end : (limits : Limits) {S : Type 0} (gives : S → List ℕ → S → Type 0) (old : S)
    (bytes : List ℕ) (was : Option ReadFault) (r : Result Bundle ReadFault)
    → length bytes ≤ limits.bytes → (was ≡ Some faults.Memory → HadGrowth limits gives bytes old)
    → (was ≡ None → IsReadResult limits bytes r)
    → ((f : ReadFault) → was ≡ Some f → r ≡ Err f) → r ≡ Err faults.Memory
    → HadGrowth limits gives bytes old
growth_at_end limits gives old bytes None r small before exact again e =
    absurd (no_memory limits bytes r small (exact refl) e)
growth_at_end limits gives old bytes (Some f) r small before exact again e =
    let both : Err f ≡ Err faults.Memory = sym (again f refl) ∙ e in
    let same : f ≡ faults.Memory = cc in
    before (ap (λ (x : ReadFault). Some x) same)
