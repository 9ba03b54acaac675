-- What a machine opens with, part by part.
use Rattle.std.proofs.Common.{◌≡◌, ◌<◌, ◌+◌, ℕ, List, [], ◌∷◌, ◌++◌, length, take, sym, ◌∙◌, subst, arith, length-append}
use Rattle.std.proofs.Math.Seq.{get_or-append_seam}
use Rattle.std.proofs.lemmas.List.{get_or-take, get_or_append_left, length-take-le}
use Rattle.kz_model.specs.declared.record.Room.{Room}
use Rattle.kz_laws.proofs.Undelayed.{mine_or_other}
use Rattle.kz_book.specs.Book.{Book}
use Rattle.kz_machine.specs.Lookups.{no_book, no_room, room_at, book_at}
use Rattle.kz_machine.specs.Opening.{IsOpened, AreOpened}

-- one more book
pub opened_more : (rooms : List Room) (books : List Book) (k : ℕ) (book : Book) → k < length rooms → AreOpened (take k rooms) books → IsOpened (room_at rooms k) book → AreOpened (take (k + 1) rooms) (books ++ book ∷ [])
opened_more rooms books k book lt are one =
    let before : length (take k rooms) ≡ k = length-take-le k rooms (omega arith) in
    let now : length (take (k + 1) rooms) ≡ k + 1 = length-take-le (k + 1) rooms (omega arith) in
    let size = are.long in
    record {
      long = omega (arith, length-append books (book ∷ []), before, now, size);
      each = λ zone below.
          mine_or_other (λ zone. zone < length (take (k + 1) rooms) → IsOpened (room_at (take (k + 1) rooms) zone) (book_at (books ++ book ∷ []) zone)) k zone
          (λ below.
          subst (λ (room : Room). IsOpened room (book_at (books ++ book ∷ []) k)) (sym (get_or-take (k + 1) rooms k no_room (omega arith)))
          (subst (λ n. IsOpened (room_at rooms k) (book_at (books ++ book ∷ []) n)) (size ∙ before) (subst (λ (book : Book). IsOpened (room_at rooms k) book) (sym (get_or-append_seam books book [] no_book)) one)))
          (λ ne below.
          let less : zone < k = omega arith in
          let there : zone < length books = omega arith in
          subst (λ (room : Room). IsOpened room (book_at (books ++ book ∷ []) zone)) (get_or-take k rooms zone no_room less ∙ sym (get_or-take (k + 1) rooms zone no_room (omega arith)))
          (subst (λ (book : Book). IsOpened (room_at (take k rooms) zone) book) (sym (get_or_append_left books (book ∷ []) no_book zone there)) (are.each zone (omega arith))))
          below;
    }
