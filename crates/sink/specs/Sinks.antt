-- What it is to send words to a sink. Assumes nothing.
use Rattle.std.specs.Prelude.{◌≡◌, List, ℕ}
use Rattle.event_list.specs.Sends.{Sends}
use Rattle.sink.specs.declared.Sink.{Sink}

-- the words ws were sent to the sink s, which is then t, with the same list and the same room
pub record SendsTo (s t : Sink) (ws : List ℕ) : Type 0 where
  pub list : t.list.now ≡ s.list.now
  pub room : t.room.ghost_name ≡ s.room.ghost_name
  pub words : Sends s.list.now s.room.now t.room.now s.sent.at s.sent.same t.sent.at t.sent.same ws
