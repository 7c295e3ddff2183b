-- The contents of the code's `Bundle`.
use Rattle.st_text.specs.declared.bundle.Bundle.{Bundle}
use Rattle.st_text.specs.Text.{Contents}

abbrev pub contents : Bundle → Contents
contents b = record { streams = b.streams; acts = b.acts }
