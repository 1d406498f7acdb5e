-- What the program's kinds of lines mean.
use Rattle.deb822_text.specs.declared.line.Kind.{Kind}
use Rattle.deb822_text.specs.declared.line.Kind.TheVariants as kinds
use Rattle.deb822_text.specs.Control.{Line, Separator, Comment, Continuation, Named, Unknown}

abbrev pub seen : Kind → Line
seen kinds.Separator = Separator
seen kinds.Comment = Comment
seen (kinds.Continuation at text) = Continuation at text.now
seen (kinds.Named at name text) = Named at name.now text.now
seen (kinds.Unknown at) = Unknown at
