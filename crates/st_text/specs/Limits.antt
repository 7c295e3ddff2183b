-- How much the reader takes (own profile). The limits on counts bind the reader alone: a bundle
-- that exceeds them has a text too.
use Rattle.std.specs.Prelude.{ℕ}
use Rattle.st_text.specs.declared.limits.Limits.{Limits}

abbrev pub most_bytes : ℕ
most_bytes = 67108864

abbrev pub most_processes : ℕ
most_processes = 1024

abbrev pub most_events : ℕ
most_events = 1000000

abbrev pub most_acts : ℕ
most_acts = 4000000

-- the limits of `read`
abbrev pub standard : Limits
standard = record {
  bytes = most_bytes;
  processes = most_processes;
  events = most_events;
  acts = most_acts;
}

-- the limits of seqtool: a service that starts a process for each request reports no more, and an
-- audit of it has no more acts
abbrev pub greater : Limits
greater = record {
  bytes = 17179869184;
  processes = 1000000;
  events = 16000000;
  acts = 100000000;
}
