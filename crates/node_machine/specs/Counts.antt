-- A counter of a node has 64 bits, and a serial shows the lowest 60 of them: on the node as a
-- signed number, here as the number from 0 to 2^60 - 1 with the same bits.
use Rattle.std.specs.Prelude.{ℕ, ◌+◌, ◌*◌, ◌%◌, ◌^◌}
use Rattle.st_core.specs.declared.types.Serial.{Serial}
use Rattle.st_core.specs.declared.types.Token.{Token}

-- the count that a serial shows of a number
unfoldable pub serial_count : ℕ → ℕ
serial_count n = n % 2 ^ 60

-- the number modulo 2^64, as a counter holds it
unfoldable pub counter_value : ℕ → ℕ
counter_value n = n % 2 ^ 64

-- the clock after a stamp
abbrev pub next_clock : ℕ → ℕ
next_clock clock = counter_value (clock + 1)

-- the count that the stamp after a clock shows
abbrev pub stamp_count : ℕ → ℕ
stamp_count clock = serial_count (clock + 1)

-- the count that the answer to a spawn leaves, if its message has the count `this`: the node takes
-- the bits of the whole term, in which four more bits, all set, stand below the count
abbrev pub answer_count : ℕ → ℕ
answer_count this = 16 * this + 15

-- a serial and a token as a node holds them
abbrev pub node_serial : Serial → Serial
node_serial x = record { prev = serial_count x.prev; this = serial_count x.this }

abbrev pub node_token : Token → Token
node_token t = record t { serial = node_serial t.serial }
