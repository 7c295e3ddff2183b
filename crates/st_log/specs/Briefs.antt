-- How calls, which are acts with their replies, are kept. Each call has a brief form, which says
-- the call itself or its place in a list of whole calls.
use Rattle.std.specs.Prelude.{◌≡◌, ℕ, ◌+◌, ◌<◌, ◌≤◌, List, length, map, slice_index_or}
use Rattle.std.specs.List.{AllByRecursion}
use Rattle.st_core.specs.declared.types.Act.{Act}
use Rattle.st_core.specs.declared.types.Act.TheVariants as act
use Rattle.st_core.specs.declared.types.Reply.{Reply}
use Rattle.st_core.specs.declared.types.Reply.TheVariants as reply
use Rattle.st_core.specs.declared.types.Want.TheVariants as want
use Rattle.st_core.specs.Pid.{pid_on}
use Rattle.st_log.specs.declared.calls.Brief.{Brief}
use Rattle.st_log.specs.declared.calls.Brief.TheVariants as brief

-- the filler for a place without a call: any call would do
abbrev pub no_call : Act × Reply
no_call = (act.Reset (pid_on 0 0), reply.Done)

-- the call that a brief form stands for, given the list of whole calls
abbrev pub call_in : List (Act × Reply) → Brief → Act × Reply
call_in whole (brief.Send p q v) = (act.Send p q v, reply.Done)
call_in whole (brief.Print p v) = (act.Print p v, reply.Done)
call_in whole (brief.Nothing p w) = (act.Receive p w, reply.Nothing)
call_in whole (brief.First p q v) = (act.Receive p want.First, reply.Mail q v)
call_in whole (brief.From p q v) = (act.Receive p (want.From q), reply.Mail q v)
call_in whole (brief.Value p q v) = (act.Receive p (want.Value v), reply.Mail q v)
call_in whole (brief.Both p q v) = (act.Receive p (want.Both q v), reply.Mail q v)
call_in whole (brief.Place p k q v) = (act.Receive p (want.Place k), reply.Mail q v)
call_in whole (brief.Whole i) = slice_index_or whole i no_call

-- the calls that brief forms stand for, in order
abbrev pub calls_in : List Brief → List (Act × Reply) → List (Act × Reply)
calls_in briefs whole = map (call_in whole) briefs

-- the call at a place, or the filler if there is none
abbrev pub call_at : List (Act × Reply) → ℕ → Act × Reply
call_at calls i = slice_index_or calls i no_call

-- if the brief form says a place, the place is below n, the number of whole calls
abbrev pub IsBriefPlaced : ℕ → Brief → Type 0
IsBriefPlaced n (brief.Whole i) = i < n
IsBriefPlaced n b = Unit {0}

-- the brief form says the call itself, without the list of whole calls
pub record IsBrief (a : Act) (y : Reply) (b : Brief) : Type 0 where
  pub says : (whole : List (Act × Reply)) → call_in whole b ≡ (a, y)
  pub placed : (n : ℕ) → IsBriefPlaced n b

-- the invariant of `CallLog`: each place that a brief form says is in the list of whole calls,
-- both lists have room for the reserved calls, and each place fits into 32 bits
pub record IsCallLog (briefs : List Brief) (whole : List (Act × Reply))
    (brief_capacity whole_capacity reserved : ℕ) : Type 0 where
  pub placed : AllByRecursion (IsBriefPlaced (length whole)) briefs
  pub briefs_fit : length briefs + reserved ≤ brief_capacity
  pub whole_fit : length whole + reserved ≤ whole_capacity
  pub calls_fit : length briefs + reserved < 4294967296
  pub places_fit : length whole + reserved < 4294967296
