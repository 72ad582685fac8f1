-- What `Tokens` shows of its cursor.
use Rattle.dq_text.specs.Token.{TokenStream}
use Rattle.dq_text.specs.Cursor.{tokens_left, last_line, CanCount}
use Rattle.dq_text.specs.declared.tokens.Tokens.TheInside.{Inside}

abbrev pub stream_of : Inside → TokenStream
stream_of t = record { left = tokens_left t.cursor; last_line = last_line t.cursor }

abbrev pub can_count : Inside → Type 0
can_count t = CanCount t.cursor
