pub mod GadgetLaws
