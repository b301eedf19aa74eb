-- What holds on Ok follows from what holds on Ok.
use Rattle.std.proofs.Common.{Result, Ok, Err, OnOk}

pub on_ok : {A E : Type 0} (P Q : Type 0) (result : Result A E) → (P → Q) → OnOk result P → OnOk result Q
on_ok P Q (Ok x) f p = f p
on_ok P Q (Err x) f p = tt

pub on_ok_two : {A E : Type 0} (P Q R : Type 0) (result : Result A E) → (P → Q → R) → OnOk result P → OnOk result Q → OnOk result R
on_ok_two P Q R (Ok x) f p q = f p q
on_ok_two P Q R (Err x) f p q = tt

pub on_ok_three : {A E : Type 0} (P Q R S : Type 0) (result : Result A E) → (P → Q → R → S) → OnOk result P → OnOk result Q → OnOk result R → OnOk result S
on_ok_three P Q R S (Ok x) f p q r = f p q r
on_ok_three P Q R S (Err x) f p q r = tt
