-- The names of the fields, as complaints give them.
use Rattle.std.specs.Prelude.{ℕ, List, codes}
use Rattle.fields.specs.declared.field.Field.{Field}
use Rattle.fields.specs.declared.field.Field.TheVariants.{Key, Nonce, Marked, Content, Sealed, Counter, Once, Message, Places, Place, Bytes, Records}

abbrev pub name_of : Field → List ℕ
name_of Key = codes "KEY"
name_of Nonce = codes "NONCE"
name_of Marked = codes "MARKED"
name_of Content = codes "CONTENT"
name_of Sealed = codes "SEALED"
name_of Counter = codes "COUNTER"
name_of Once = codes "ONCE"
name_of Message = codes "MESSAGE"
name_of Places = codes "PLACES"
name_of Place = codes "PLACE"
name_of Bytes = codes "BYTES"
name_of Records = codes "RECORDS"
