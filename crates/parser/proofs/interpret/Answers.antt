use mathlib.Core.Path.{refl}
use Rattle.parser.proofs.Laws.{by-1, by-3, by-6, by_8, by-16, by-32, by-34, by-48, by-64, by-66, by-70, by-none}
use Rattle.parser.proofs.interpret.Goals as goal

pub returns-in-1 : goal.returns-in-1
returns-in-1 c =
    let split = c.split-elements in
    let args = c.args in
    by-1 args.format args.s.now _ split.ensures _ c.id-number.ensures _ c.in-1.is c.read_hello.ensures

pub returns-in-3 : goal.returns-in-3
returns-in-3 c =
    let split = c.split-elements in
    let args = c.args in
    by-3 args.format args.s.now _ split.ensures _ c.id-number.ensures _ c.in-3.is
    (c.read_abort.ensures args.format args.s.now)

pub returns-in-6 : goal.returns-in-6
returns-in-6 c =
    let split = c.split-elements in
    let args = c.args in
    by-6 args.format args.s.now _ split.ensures _ c.id-number.ensures _ c.in-6.is
    (c.read_goodbye.ensures args.format args.s.now)

pub returns-in-8 : goal.returns-in-8
returns-in-8 c =
    let split = c.split-elements in
    let args = c.args in
    by_8 args.format args.s.now _ split.ensures _ c.id-number.ensures _ c.in-8.is c.read_error.ensures

pub returns-in-16 : goal.returns-in-16
returns-in-16 c =
    let split = c.split-elements in
    let args = c.args in
    by-16 args.format args.s.now _ split.ensures _ c.id-number.ensures _ c.in-16.is c.read_publish.ensures

pub returns-in-32 : goal.returns-in-32
returns-in-32 c =
    let split = c.split-elements in
    let args = c.args in
    by-32 args.format args.s.now _ split.ensures _ c.id-number.ensures _ c.in-32.is c.read_subscribe.ensures

pub returns-in-34 : goal.returns-in-34
returns-in-34 c =
    let split = c.split-elements in
    let args = c.args in
    by-34 args.format args.s.now _ split.ensures _ c.id-number.ensures _ c.in-34.is c.read_unsubscribe.ensures

pub returns-in-48 : goal.returns-in-48
returns-in-48 c =
    let split = c.split-elements in
    let args = c.args in
    by-48 args.format args.s.now _ split.ensures _ c.id-number.ensures _ c.in-48.is c.read_call.ensures

pub returns-in-64 : goal.returns-in-64
returns-in-64 c =
    let split = c.split-elements in
    let args = c.args in
    by-64 args.format args.s.now _ split.ensures _ c.id-number.ensures _ c.in-64.is c.read_register.ensures

pub returns-in-66 : goal.returns-in-66
returns-in-66 c =
    let split = c.split-elements in
    let args = c.args in
    by-66 args.format args.s.now _ split.ensures _ c.id-number.ensures _ c.in-66.is c.read_unregister.ensures

pub returns-in-70 : goal.returns-in-70
returns-in-70 c =
    let split = c.split-elements in
    let args = c.args in
    by-70 args.format args.s.now _ split.ensures _ c.id-number.ensures _ c.in-70.is c.read_yield.ensures

pub returns-in_default : goal.returns-in_default
returns-in_default c =
    let split = c.split-elements in
    let args = c.args in
    by-none args.format args.s.now _ split.ensures _ c.id-number.ensures _ c.in_default.in_default-own.rest refl
