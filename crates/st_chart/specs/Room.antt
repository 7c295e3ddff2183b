-- The most bytes that the parts of a line take in a buffer.
use Rattle.std.specs.Prelude.{ℕ, ◌+◌}
use Rattle.st_text.specs.Room.{number_room, pid_room, serial_room}

-- a pid, a space and an index
abbrev pub place_room : ℕ
place_room = pid_room + (1 + number_room)

-- `left` and a pid
abbrev pub verdict_room : ℕ
verdict_room = 8 + pid_room

-- `notrising` and a place
abbrev pub reason_room : ℕ
reason_room = 10 + place_room

abbrev pub item_word_room : ℕ
item_word_room = 8

-- `after` and a place
abbrev pub origin_room : ℕ
origin_room = 6 + place_room

-- three spaces between four parts
abbrev pub item_room : ℕ
item_room = 3 + item_word_room + serial_room + number_room + origin_room
