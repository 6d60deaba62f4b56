-- The regular expression that a level and what is below it stand for.
use Rattle.sp_regex.specs.Trees.{Syntax, byte, any, class, repeat, sequence, alternatives, literal}
use Rattle.sp_regex.specs.declared.shape.Shape.{Shape}
use Rattle.sp_regex.specs.declared.shape.Shape.TheVariants.{Byte, Any, Class, Sequence, Alternatives, Repeat, Literal}

abbrev pub syntax_of : Shape → Syntax
syntax_of (Byte b) = byte b
syntax_of Any = any
syntax_of (Class negated rs) = class negated rs.now
syntax_of (Sequence parts) = sequence parts.now
syntax_of (Alternatives parts) = alternatives parts.now
syntax_of (Repeat a c) = repeat c.least c.most a.now
syntax_of (Literal bytes) = literal bytes.now
