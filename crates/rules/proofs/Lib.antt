pub mod ListLaws
pub mod PsiLaws
pub mod RuleLaws
pub mod NineLaws
pub mod ArithmeticGives
