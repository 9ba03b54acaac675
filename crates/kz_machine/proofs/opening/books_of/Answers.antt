use Rattle.std.proofs.Common.{◌≡◌, ◌<◌, length, ◌∙◌, subst, arith}
use Rattle.std.proofs.lemmas.List.{get_or_default}
use Rattle.kz_model.specs.declared.record.Room.{Room}
use Rattle.kz_machine.specs.Lookups.{no_room, room_at}
use Rattle.kz_machine.specs.Opening.{IsOpened}
use Rattle.kz_machine.proofs.Opened.{opened_more}
use Rattle.kz_machine.proofs.opening.books_of.Goals as goal

pub loop-room-preserved : goal.loop-room-preserved
loop-room-preserved c =
    let rooms = c.args.rooms.now in
    let k = c.loop-room.room-index in
    let room = c.room-item.result in
    let lt : k < length rooms = omega arith in
    let same : room ≡ room_at rooms k = c.room-item.is ∙ get_or_default rooms k room no_room lt in
    let e = c.in_ok-new.ensures in
    rw c.in_ok-push.ensures.items
    (opened_more rooms c.loop-room.books.items k c.in_ok-new.field-0 lt c.loop-room.invariant
    (subst (λ (room : Room). IsOpened room c.in_ok-new.field-0) same
    (record {
      room = e.room;
      visits = e.visits;
      chunks = e.chunks;
      most_chunks = e.most_chunks;
      most_gifts = e.most_gifts;
      history = e.keeps.0;
      keeps = e.keeps.1;
      steps = e.keeps.2;
      answers = e.keeps.3;
    })))
