-- The most bytes that the parts of a line of `why` take.
use Rattle.std.specs.Prelude.{ℕ, ◌+◌}
use Rattle.st_text.specs.Room.{number_room, serial_room}
use Rattle.st_chart.specs.Room.{item_word_room, place_room}

-- a number, a space and the greatest indent
abbrev pub depth_room : ℕ
depth_room = number_room + 17

-- a place and its line
abbrev pub located_room : ℕ
located_room = place_room + (7 + number_room)

-- the kind of an event, its serial and its value
abbrev pub what_room : ℕ
what_room = item_word_room + 2 + serial_room + number_room

abbrev pub begins_label_room : ℕ
begins_label_room = 44 + number_room

abbrev pub had_received_room : ℕ
had_received_room = 31 + located_room + number_room

abbrev pub since_room : ℕ
since_room = 8 + located_room

-- the words of a hop: those about another label are the longest
abbrev pub claim_room : ℕ
claim_room = begins_label_room + had_received_room

abbrev pub premise_room : ℕ
premise_room = 10
