-- What a reply says, and its bytes ("Simple reply message").
use Rattle.std.specs.Prelude.{ℕ, List, [], ◌++◌, ◌==◌, if◌then◌else◌}
use Rattle.nm_wire.specs.Layout.{simple_reply_bytes}
use Rattle.nm_wire.specs.declared.simple_reply.SimpleReply.{SimpleReply}

-- the error, 0 for none; the request's cookie; and the data of a READ
pub record Answer : Type 0 where
  pub error : ℕ
  pub cookie : ℕ
  pub bytes : List ℕ

-- what a header says with these data
abbrev pub answer_with : SimpleReply → List ℕ → Answer
answer_with head bytes = record { error = head.error; cookie = head.cookie; bytes = bytes }

-- the frame of a reply: its header, and the data only where there is no error
abbrev pub frame_of : Answer → List ℕ
frame_of answer =
    simple_reply_bytes (record { error = answer.error; cookie = answer.cookie })
    ++ (if answer.error == 0 then answer.bytes else [])
