-- What single tokens tell to the trees that are built of them.
use Rattle.sp_ast.specs.declared.forms.Form.{Form}
use Rattle.std.specs.Prelude.{ℕ, List, Option, Some, None, option_map}
use Rattle.sp_words.specs.declared.words.IntWord.{IntWord}
use Rattle.sp_words.specs.declared.words.AttributeName.{AttributeName}
use Rattle.sp_lex.specs.declared.kinds.Absent.TheVariants as absent
use Rattle.sp_lex.specs.declared.kinds.TokenKind.{TokenKind}
use Rattle.sp_lex.specs.declared.kinds.TokenKind.TheVariants as token
use Rattle.sp_build.specs.Rules.{Leaf, always, by_name, by_string, by_bytes, by_regex, by_number, by_integer, by_hook_name}
use Rattle.sp_lex.specs.Literals.{number_value}
use Rattle.sp_literals.specs.Values.{string_value, bytes_value, regex_text}

-- the integer type that a token is the word of
abbrev pub integer_of : TokenKind → Option IntWord
integer_of (token.Integer w) = Some w
integer_of _ = None

-- the attribute of a field that a token is; &priority is none
abbrev pub attribute_of : TokenKind → Option AttributeName
attribute_of (token.Attribute a) = Some a
attribute_of _ = None

-- the alternative that a token is of, by its kind and its bytes
abbrev pub form_of : Leaf → TokenKind → List ℕ → Option Form
form_of (always form) kind bytes = Some form
form_of (by_name form) token.Id bytes = Some (form bytes)
form_of (by_name form) (token.Absent absent.Skip) bytes = Some (form bytes)
form_of (by_string form) token.String bytes = Some (form (string_value bytes))
form_of (by_bytes form) token.Bytes bytes = Some (form (bytes_value bytes))
form_of (by_regex form) token.Regex bytes = Some (form (regex_text bytes))
form_of (by_number form) token.Number bytes = Some (form (number_value bytes))
form_of (by_integer form) kind bytes = option_map form (integer_of kind)
form_of (by_hook_name form) (token.Hook h) bytes = Some (form h)
form_of _ kind bytes = None
