use Rattle.std.proofs.Common.{◌≡◌, ℕ, List, [], ◌∷◌, length, get_or, replicate, Some, Option, sym, refl, ap, ◌∙◌, ap₂, arith}
use Rattle.layout.specs.Rule.{remainder, with_one, sorted, without_one}
use Rattle.layout.specs.Format.{block_count}
use Rattle.layout.proofs.Inserts.{sorted_sorted}
use Rattle.blocks.specs.declared.Quotient.{Quotient}
use Rattle.layout.proofs.Formats.{words_any_order}
use Rattle.filter.specs.Slots.{slot_shown}
use Rattle.examples.specs.Examples.{SmallFilter}
use Rattle.examples.proofs.Words.{words_by, sized_adds, sized_take, adds_sorted, empty_words, three_words, two_words, long_words}
use Rattle.examples.proofs.Refusals.{refused, accepted, given, small, crowd_two, crowd_three, free_zero}
use Rattle.examples.proofs.Accepts.{none_refused, three_room, three_narrow, zeros_room, zeros_narrow}
use Rattle.examples.proofs.Lasts.{lasts, last_slots, last_words, lasts_accepted}
use Rattle.examples.proofs.Selects.{rank_five, select_second, select_third}
use Rattle.examples.proofs.examples.Goals as goal

without-first : without_one 1287 (1287 ∷ 1289 ∷ 1539 ∷ []) ≡ 1289 ∷ 1539 ∷ []
unfolding without_one
without-first = refl

order : sorted (1289 ∷ 1287 ∷ 1539 ∷ []) ≡ 1287 ∷ 1289 ∷ 1539 ∷ []
unfolding sorted with_one
order = refl

pub returns : goal.returns
returns c = record {
  empty_block = λ p lent f q r few many begun.
      let one : block_count 8 (length lent.now) ≡ 1 = omega arith in
      let blocks = begun.blocks ∙ ap (λ x. block_count x (length lent.now)) r ∙ one in
      let size : SmallFilter f 1 = record { quotients = ap (λ x. x.q) begun.plan ∙ q; remainders = ap (λ x. x.r) begun.plan ∙ r; blocks = blocks } in
      (blocks, words_by f 1 [] size begun.empty ∙ empty_words);
  no_entries = λ f s e. words_by f 1 [] s e ∙ empty_words;
  three_entries = λ f g ps s e order all. words_by g 1 _ (sized_adds f g 1 ps s all) (adds_sorted f g ps e all ∙ order) ∙ three_words;
  such_an_order = order;
  three_accepted = none_refused 1 (1287 ∷ 1289 ∷ 1539 ∷ []) three_room three_narrow;
  one_taken = λ f g h ps s e order all out.
      words_by h 1 _ (sized_take g h 1 1287 (sized_adds f g 1 ps s all) out) (out.done.2 ∙ ap (without_one 1287) (adds_sorted f g ps e all ∙ order) ∙ without-first)
      ∙ two_words;
  take_accepted = λ g h res s e. given g h 1 1287 (1287 ∷ 1289 ∷ 1539 ∷ []) res s e (omega arith) (omega arith);
  run_over = λ f g ps s e t all.
      let size = sized_adds f g 2 ps s all in
      let held = adds_sorted f g ps e all in
      let (a, b, c, l) = lasts ps t in
      let in_slot : ℕ → List ℕ → Option (Quotient × ℕ) = λ k qs. Some (record { 0 = 63 }, remainder 8 (get_or qs k 0)) in
      let slots = last_slots a b c l.first l.second l.third in
      let words = words_by g 2 _ size held in
      let two = last_words (sorted ps) a b c (sorted_sorted ps) l in (
        ap₂ (λ r es. slot_shown r es 63) size.remainders (held ∙ l.same) ∙ slots.0 ∙ ap (in_slot 0) (sym l.same),
        ap₂ (λ r es. slot_shown r es 64) size.remainders (held ∙ l.same) ∙ slots.1 ∙ ap (in_slot 1) (sym l.same),
        ap₂ (λ r es. slot_shown r es 65) size.remainders (held ∙ l.same) ∙ slots.2 ∙ ap (in_slot 2) (sym l.same),
        ap (λ ws. get_or ws 12 0) words ∙ two.0,
        ap (λ ws. get_or ws 13 0) words ∙ two.1,
      );
  run_over_accepted = lasts_accepted;
  last_quotient_full = λ f g a p res s e ea ep. refused f g 1 p 63 (a ∷ []) res s e (small p 63 ep (omega arith)) (crowd_two a p ea ep);
  free_slots_below = λ f g a b p res s e ea eb ep. refused f g 1 p 62 (a ∷ b ∷ []) res s e (small p 63 ep (omega arith)) (crowd_three a b p ea eb ep);
  last_slot_used = λ f g a p res s e ea ep. accepted f g 1 p 0 (a ∷ []) res s e (small p 0 ep (omega arith)) (omega arith) (omega arith) (free_zero a ea);
  no_slot_number = refl;
  long_run = λ f g s e all.
      let words = words_by g 3 _ (sized_adds f g 3 (replicate 150 0) s all) (adds_sorted f g (replicate 150 0) e all) ∙ words_any_order 8 3 (replicate 150 0) in (
        ap (λ ws. get_or ws 2 0) words ∙ long_words.0,
        ap (λ ws. get_or ws 13 0) words ∙ long_words.1,
        ap (λ ws. get_or ws 24 0) words ∙ long_words.2,
      );
  long_run_accepted = none_refused 3 (replicate 150 0) zeros_room (zeros_narrow 150 63);
  pair_zero_one = refl;
  pair_one_zero = refl;
  pair_zero_zero = refl;
  rank_five = rank_five;
  select_second = select_second;
  select_third = select_third;
}
