-- What a log keeps of a message.
use Rattle.page_messages.specs.declared.message.Msg.{Msg}
use Rattle.page_messages.specs.declared.message.Body.{Body}
use Rattle.page_messages.specs.declared.message.Body.TheVariants.{Fetch, Page, Reconcile, Ack, Ask, Grant, Refuse, Done, Park, Add, Added}
use Rattle.page_messages.specs.declared.post.Note.{Note}
use Rattle.page_messages.specs.declared.post.Note.TheVariants as note
use Rattle.page_messages.specs.declared.post.Post.{Post}

-- a closure is named by its frame
abbrev pub note_of : Body → Note
note_of (Fetch page) = note.Fetch page
note_of (Page page words) = note.Page page words
note_of (Reconcile parts) = note.Reconcile parts
note_of Ack = note.Ack
note_of Ask = note.Ask
note_of (Grant closure) = note.Grant closure.id
note_of Refuse = note.Refuse
note_of (Done join index value) = note.Done join index value
note_of (Park join closure) = note.Park join closure.id
note_of (Add frame index word addend) = note.Add frame index word addend
note_of (Added old) = note.Added old

-- The receiver, and what the message says.
abbrev pub post_of : Msg → Post
post_of message = record { receiver = message.receiver; note = note_of message.body }
