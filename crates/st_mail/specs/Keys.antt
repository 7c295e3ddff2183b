-- The keys by which an index finds messages.
use Rattle.std.specs.Prelude.{Bool, true}
use Rattle.st_mail.specs.declared.keys.SearchKey.{SearchKey}
use Rattle.st_mail.specs.declared.keys.SearchKey.TheVariants as key
use Rattle.st_mail.specs.declared.keys.Keys.{Keys}

-- whether the key is one of these keys
abbrev pub has : Keys → SearchKey → Bool
has keys key.Value = keys.value
has keys key.Sender = keys.sender
has keys key.Both = keys.both
has keys key.Stamp = keys.stamp

-- these keys and one more
abbrev pub with_key : SearchKey → Keys → Keys
with_key key.Value keys =
    record { value = true; sender = keys.sender; both = keys.both; stamp = keys.stamp }
with_key key.Sender keys =
    record { value = keys.value; sender = true; both = keys.both; stamp = keys.stamp }
with_key key.Both keys =
    record { value = keys.value; sender = keys.sender; both = true; stamp = keys.stamp }
with_key key.Stamp keys =
    record { value = keys.value; sender = keys.sender; both = keys.both; stamp = true }
