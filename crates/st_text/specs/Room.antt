-- The most room that a spelling takes in a buffer. Each number is given the room of the longest,
-- even a label or a part of a pid, since one function writes them all.
use Rattle.std.specs.Prelude.{◌≡◌, ℕ, ◌+◌, ◌≤◌, List, ◌++◌}
use Rattle.arrayvec.specs.ArrayVec.{array_vec_len, ArrayVec}

-- the bytes that are written at once
abbrev pub piece_room : ℕ
piece_room = 8192

-- a line and its newline: an event's room, rounded up
abbrev pub line_room : ℕ
line_room = 256

-- a buffer: while less than a piece waits, there is room for a line
abbrev pub buffer_room : ℕ
buffer_room = piece_room + line_room

-- the buffer has room for n bytes more
abbrev pub HasRoom : ℕ → ArrayVec ℕ → Type 0
HasRoom room buffer = array_vec_len buffer + room ≤ buffer_room

-- the text was put after the bytes that waited, and took at most this much room
pub record Puts (room : ℕ) (text : List ℕ) (old new : ArrayVec ℕ) : Type 0 where
  pub items : new.items ≡ old.items ++ text
  pub len : array_vec_len new ≤ array_vec_len old + room

-- the digits of 18446744073709551615
abbrev pub number_room : ℕ
number_room = 20

-- `false`
abbrev pub bool_room : ℕ
bool_room = 5

-- `<`, `.` and `.0>` around two numbers
abbrev pub pid_room : ℕ
pid_room = 5 + number_room + number_room

-- `{`, `,` and `}` around two numbers
abbrev pub serial_room : ℕ
serial_room = 3 + number_room + number_room

-- `'receive'`
abbrev pub kind_room : ℕ
kind_room = 9

-- an event's label and kind, as `17,{print,`
abbrev pub head_room : ℕ
head_room = 3 + number_room + kind_room

-- a sender and a receiver
abbrev pub ends_room : ℕ
ends_room = 1 + pid_room + pid_room

-- an event: its label and kind, its serial, its sender and receiver, and its value
abbrev pub event_room : ℕ
event_room = 15 + head_room + serial_room + ends_room + number_room

-- a component's word, and a label or a truth value
abbrev pub component_room : ℕ
component_room = 6 + number_room

-- `both`, a pid and a number
abbrev pub want_room : ℕ
want_room = 6 + pid_room + number_room

-- three truth values
abbrev pub flags_room : ℕ
flags_room = 2 + bool_room + bool_room + bool_room

abbrev pub token_room : ℕ
token_room = 4 + number_room + flags_room + number_room + number_room + pid_room

-- `restore`, a pid and a token
abbrev pub act_room : ℕ
act_room = 9 + pid_room + token_room
