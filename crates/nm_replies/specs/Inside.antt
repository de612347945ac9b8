-- What a `Reply` says.
use Rattle.std.specs.Prelude.{ℕ, []}
use Rattle.nm_replies.specs.Answer.{Answer}
use Rattle.nm_replies.specs.declared.reply.Reply.TheInside.{Inside}
use Rattle.nm_replies.specs.declared.reply.Content.{Content}
use Rattle.nm_replies.specs.declared.reply.Content.TheVariants.{Done, WithData, Refused}

-- what this content says of the request with this cookie
abbrev pub content_answer : ℕ → Content → Answer
content_answer cookie Done = record { error = 0; cookie = cookie; bytes = [] }
content_answer cookie (WithData bytes) = record { error = 0; cookie = cookie; bytes = bytes.items }
content_answer cookie (Refused error) = record { error = error; cookie = cookie; bytes = [] }

-- what a reply says
abbrev pub answer_of : Inside → Answer
answer_of reply = content_answer reply.cookie reply.content
